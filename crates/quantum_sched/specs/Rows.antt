-- Memories that are prepared for the threads of a row before any thread changes, and what becomes of the threads then.
-- Our choice: a restatement for proofs.
use Rattle.std.specs.Prelude.{ℕ, ◌+◌, ◌<◌, List, [], ◌∷◌, Option, Some, None, if◌then◌else◌}
use Rattle.std.specs.List.{flat_map}
use Rattle.memory_model.specs.Memory.{Memory}
use Rattle.memory_model.specs.Ranges.{with_copies}
use Rattle.space_model.specs.Space.{Space, space, Children, top_of, find, over}
use Rattle.space_model.specs.Part.{Part, start_part}
use Rattle.space_model.specs.Runtime.{shared_pages}
use Rattle.space_mem.specs.Held.{Held}
use Rattle.snapshot.specs.Pages.{OwnsChanged}
use Rattle.space_model.specs.Quanta.{Thread, waits}

-- a memory for the thread of a number
abbrev pub Ready : Type 0
Ready = ℕ × Memory

-- a thread's memory with the shared pages of its caller's, where it waits
abbrev pub start_of : Memory → Thread → List Ready
start_of m c = if waits c.top.status then (c.number, with_copies c.top.memory m 0 0 shared_pages) ∷ [] else []

abbrev pub starts_of : Memory → List Thread → List Ready
starts_of m cs = flat_map (start_of m) cs

-- a thread's memory as it is, where it has a snapshot
abbrev pub renewal_of : ℕ → Memory → Option Memory → List Ready
renewal_of n m None = []
renewal_of n m (Some snapshot) = (n, m) ∷ []

abbrev pub renewals_of : List Thread → List Ready
renewals_of cs = flat_map (λ c. renewal_of c.number c.top.memory c.top.snapshot) cs

-- a thread runs for so many events, where it gets a quantum
abbrev pub quantum_part : Option ℕ → Part
quantum_part None c = c
quantum_part (Some quantum) c = start_part (Some quantum) c

-- a thread with this memory, which is its snapshot too
abbrev pub renewed : Option ℕ → Memory → Part
renewed quantum m c = quantum_part quantum (record c { memory = m; snapshot = Some m })

-- the same of a space, and of the child of a number
abbrev pub renewed_space : Option ℕ → Memory → Space → Space
renewed_space quantum m (space t cs) = space (renewed quantum m t) cs

abbrev pub with_ready : Option ℕ → Ready → Children → Children
with_ready quantum r cs = over r.0 (renewed_space quantum r.1) cs

-- one after the other
abbrev pub with_each : Option ℕ → List Ready → Children → Children
with_each quantum [] cs = cs
with_each quantum (r ∷ rs) cs = with_each quantum rs (with_ready quantum r cs)

-- ---- by what stands under a number

-- the thread of a number, where it is there
abbrev pub thread_at : ℕ → Option Space → List Thread
thread_at n None = []
thread_at n (Some s) = record { number = n; top = top_of s } ∷ []

-- a memory owns the shared pages that a thread changed since its snapshot
abbrev pub OwnsWritten : Held → Option Memory → Memory → Type 0
OwnsWritten h None m = Unit {0}
OwnsWritten h (Some snapshot) m = OwnsChanged m snapshot h 0 shared_pages

abbrev pub OwnsAt : Held → Option Space → Type 0
OwnsAt h None = Unit {0}
OwnsAt h (Some s) = let t = top_of s in OwnsWritten h t.snapshot t.memory

-- those that each thread of a row changed
abbrev pub OwnsRow : Held → ℕ → ℕ → Children → Type 0
OwnsRow h first count cs = (k : ℕ) → k < count → OwnsAt h (find (first + k) cs)
