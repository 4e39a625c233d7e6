-- A copy of all pages of a memory is that memory, so a child that has its caller's memory has a copy of it; a process's files have their base too.
use Rattle.std.proofs.Common.{◌≡◌, ℕ, ◌+◌, ◌*◌, ◌-◌, ◌≤◌, inl, inr, sym, ◌∙◌, ap, subst, arith}
use Rattle.std.proofs.lemmas.Bool.{cases_lt}
use Rattle.std.specs.Prelude.{Bool, true, false, Option, Some, None, is_some, IfSome, if◌then◌else◌}
use Rattle.memory_model.specs.Memory.{Memory, byte_at, permission_at, same_memory}
use Rattle.memory_model.specs.Ranges.{with_row, with_copies, IsBounded}
use Rattle.memory_model.specs.Sizes.{page_size, pages}
use Rattle.memory_model.specs.Sparse.{Sparse, value_at}
use Rattle.instruction_model.specs.Outcome.{Registers}
use Rattle.space_mem.specs.Held.{Held, CoversIn, memory_in}
use Rattle.space_mem.proofs.Dirty.{covers_in_all}
use Rattle.space_model.specs.Space.{Top}
use Rattle.space_model.specs.Runtime.{after_fork, after_thread_fork, fork_registers}
use Rattle.space_model.specs.declared.Status.TheVariants.{Running}
use Rattle.space_model.specs.Files.{with_file_bases}
use Rattle.user_runtime.specs.Calls.{Suits, after_fork_of, forked_memory}
use Rattle.memory_model.proofs.Rows.{value_at-row_after, value_at-row_key}

-- a row over all keys at which either of two has a value
row_over : (t s : Sparse) (value : ℕ → ℕ) (n : ℕ) → ((k : ℕ) → value k ≡ value_at s k) → ((k : ℕ) → n ≤ k → value_at t k ≡ 0) → ((k : ℕ) → n ≤ k → value_at s k ≡ 0)
    → (k : ℕ) → value_at (with_row t 0 value n) k ≡ value_at s k
row_over t s value n same low high k = elim (cases_lt k n) [
  | inl before ↦ value_at-row_key t 0 value n k (omega arith) (omega (arith, before)) ∙ (let here : k - 0 ≡ k = omega arith in ap value here) ∙ same k
  | inr after ↦ value_at-row_after t 0 value n k (omega (arith, after)) ∙ low k after ∙ sym (high k after)
]

pub all_copied : (m s : Memory) → IsBounded m → IsBounded s → with_copies m s 0 0 pages ≡ s
all_copied m s low high =
    same_memory (with_copies m s 0 0 pages) s
    (row_over m.bytes s.bytes (λ k. byte_at s (page_size * 0 + k)) 4294967296 (λ k. let here : page_size * 0 + k ≡ k = omega arith in ap (byte_at s) here) low.addresses high.addresses)
    (row_over m.permissions s.permissions (λ k. permission_at s (0 + k)) 1048576 (λ k. let here : 0 + k ≡ k = omega arith in ap (permission_at s) here) low.pages high.pages)

-- a child as the code sees it
abbrev run_by : Registers → Memory → Option Memory → Top → Top
run_by r m snapshot c = record c { registers = r; memory = m; snapshot = snapshot; status = Running; limit = None }

-- the snapshot of a child that is forked: a thread's is its memory, a process keeps the one that it had
abbrev forked_snapshot : Bool → Memory → Option Memory → Option Memory
forked_snapshot thread m had = if thread then Some m else had

fork_is : (thread : Bool) (t c : Top) → with_copies c.memory t.memory 0 0 pages ≡ t.memory
    → run_by (fork_registers t.registers) (forked_memory thread t.memory) (forked_snapshot thread t.memory c.snapshot) c ≡ after_fork_of thread t c
unfolding after_fork after_thread_fork
fork_is true t c copied = ap (λ m. run_by (fork_registers t.registers) m (Some m) c) (sym copied)
fork_is false t c copied = ap (λ m. run_by (fork_registers t.registers) (with_file_bases m) c.snapshot c) (sym copied)

snapshot_is : (m : Memory) (had : Option Memory) (o l n : Option Held) → IfSome o (λ s. s.memory ≡ m) → n ≡ (if is_some o then o else l) → memory_in l ≡ had → memory_in n ≡ forked_snapshot (is_some o) m had
snapshot_is m had None l n same is was = ap memory_in is ∙ was
snapshot_is m had (Some h) l n same is was = ap memory_in is ∙ ap (λ k. Some k) same

-- a child after a fork, by what its snapshot was and is
pub given : (t u c d : Top) (m : Memory) (r : Registers) (o l n : Option Held) → u ≡ t → d ≡ c → IsBounded d.memory → IsBounded u.memory → m ≡ forked_memory (is_some o) t.memory → r ≡ fork_registers u.registers
    → IfSome o (λ s. s.memory ≡ t.memory) → n ≡ (if is_some o then o else l) → memory_in l ≡ d.snapshot → run_by r m (memory_in n) d ≡ after_fork_of (is_some o) t c
given t u c d m r o l n caller child low high copy registers same is had =
    let thread : Bool = is_some o in
    let copied : with_copies d.memory t.memory 0 0 pages ≡ t.memory = all_copied d.memory t.memory low (subst (λ x. IsBounded x.memory) caller high) in
    ap (λ x. run_by x m (memory_in n) d) (registers ∙ ap (λ x. fork_registers x.registers) caller)
    ∙ ap (λ x. run_by (fork_registers t.registers) x (memory_in n) d) copy
    ∙ ap (λ x. run_by (fork_registers t.registers) (forked_memory thread t.memory) x d) (snapshot_is t.memory d.snapshot o l n same is had)
    ∙ fork_is thread t d copied
    ∙ ap (after_fork_of thread t) child

-- a memory suits the snapshot that the child has then
pub suited : (h : Held) (o l n : Option Held) → Suits h o → n ≡ (if is_some o then o else l) → CoversIn h n
suited h None l n all is = subst (CoversIn h) (sym is) (covers_in_all h l all)
suited h (Some s) l n covers is = subst (CoversIn h) (sym is) covers
