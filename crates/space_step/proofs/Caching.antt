-- What a cache keeps of a memory is so after a store to a word that it does not keep.
use Rattle.std.proofs.Common.{◌≡◌, ℕ, ◌+◌, ◌-◌, ◌*◌, ◌/◌, ◌%◌, ◌^◌, ◌<◌, ◌≤◌, ◌==◌, Bool, true, false, List, length, slice_set, slice_index_or, refl, sym, ap, subst, ◌∙◌, arith}
use Rattle.std.proofs.lemmas.List.{get_or-replicate, get_or_default, get_or-set_same, get_or-set_other, length-replicate, length-set}
use Rattle.std.proofs.Math.ListN.{replicate}
use Rattle.std.proofs.lemmas.Bool.Decides.{nat_tests}
use Rattle.std.proofs.lemmas.Grind.{common_steps}
use Rattle.memory_model.specs.declared.Width.{Width}
use Rattle.memory_model.specs.declared.Width.TheVariants.{One, Two, Four}
use Rattle.memory_model.specs.Memory.{Memory, byte_at, number_from, width_bytes, with_number}
use Rattle.instruction_model.specs.declared.Instruction.{Instruction}
use Rattle.instruction_model.specs.Instruction.{instruction_of}
use Rattle.instruction_model.specs.Outcome.{View, view_of, outcome}
use Rattle.instruction_model.specs.Form.{HasFields}
use Rattle.rv_exec.specs.Flat.{meaning}
use Rattle.rv_exec.specs.Access.{stored_byte}
use Rattle.space_mem.specs.Stored.{byte_stored, may_fetch_stored}
use Rattle.space_step.specs.declared.decode_cache.Entry.{Entry}
use Rattle.space_step.specs.declared.decode_cache.Table.{Table}
use Rattle.space_step.specs.declared.decode_cache.TheConstants.{ENTRIES}
use Rattle.space_step.specs.Source.{IsKnown, StandsAt}
use Rattle.space_step.specs.Cache.{Agrees, Hits, Holds, IsBounded, Lacks, place}

-- a byte of another word than that of a store stays
other_byte : (byte : ℕ → ℕ) (a : ℕ) (w : Width) (v q : ℕ) → a % width_bytes w ≡ 0 → (q / 4 ≡ a / 4 → ⊥) → stored_byte byte a w v q ≡ byte q
other_byte byte a One v q aligned other = grind (arith, nat_tests, common_steps)
other_byte byte a Two v q aligned other = grind (arith, nat_tests, common_steps)
other_byte byte a Four v q aligned other = grind (arith, nat_tests, common_steps)

pub byte_stays : (m : Memory) (a : ℕ) (w : Width) (v q : ℕ) → a % width_bytes w ≡ 0 → (q / 4 ≡ a / 4 → ⊥) → byte_at (with_number m a w v) q ≡ byte_at m q
byte_stays m a w v q aligned other = byte_stored m a w v q ∙ other_byte (byte_at m) a w v q aligned other

number_of : ℕ → ℕ → ℕ → ℕ → ℕ
number_of a b c d = a + 256 * b + 65536 * c + 16777216 * d

word_stays : (m : Memory) (a : ℕ) (w : Width) (v t : ℕ) → a % width_bytes w ≡ 0 → t % 4 ≡ 0 → (t ≡ 4 * (a / 4) → ⊥)
    → number_from (byte_at (with_number m a w v)) Four t ≡ number_from (byte_at m) Four t
word_stays m a w v t aligned whole other =
    let stays : (j : ℕ) → j < 4 → byte_at (with_number m a w v) (t + j) ≡ byte_at m (t + j) = λ j h. byte_stays m a w v (t + j) aligned (λ e. other (omega arith)) in
    let first : byte_at (with_number m a w v) t ≡ byte_at m t = byte_stays m a w v t aligned (λ e. other (omega arith)) in
    rw first (rw (stays 1 (omega arith)) (rw (stays 2 (omega arith)) (rw (stays 3 (omega arith)) refl)))

pub stored_agrees : (m : Memory) (t : Table) (a : ℕ) (w : Width) (v : ℕ) → a % width_bytes w ≡ 0 → Agrees (view_of m) t → Lacks t a → Agrees (view_of (with_number m a w v)) t
stored_agrees m t a w v aligned agrees lacks = (
  agrees.0,
  λ k d h b is.
      let old = agrees.1 k d h b is in
      (old.0, old.1, old.2, (may_fetch_stored m a w v b ∙ old.3.0, ap instruction_of (word_stays m a w v b aligned old.0 (λ e. lacks k d h (is ∙ ap (λ x. t.first + x) e))) ∙ old.3.1)),
)

-- an instruction that is known stands there
pub known_stands : (v : View) (a : ℕ) (i : Instruction) → a % 4 ≡ 0 → IsKnown v a i → StandsAt v a i
unfolding outcome
known_stands v a i whole known r at =
    let multiple : (r.pc % 4 == 0) ≡ true = rw at (grind (arith, nat_tests)) in
    rw multiple (rw at (rw known.0 (rw known.1 refl)))

place_within : (a : ℕ) → place a < ENTRIES
place_within a = omega arith

not_same : (a b : ℕ) → (a == b) ≡ false → a ≡ b → ⊥
not_same a b is e = grind (arith, nat_tests)

same : (a b : ℕ) → (a == b) ≡ true → a ≡ b
same a b is = grind (arith, nat_tests)

by_place : (P : ℕ → Entry → Type 0) (es : List Entry) (p k : ℕ) (e d : Entry) (c : Bool) → (k == p) ≡ c → p < length es → P p e → P k (slice_index_or es k d) → P k (slice_index_or (slice_set es p e) k d)
by_place P es p k e d true is within new old = subst (λ (n : ℕ). P n (slice_index_or (slice_set es p e) n d)) (sym (same k p is)) (subst (P p) (sym (get_or-set_same es p e d within)) new)
by_place P es p k e d false is within new old = subst (P k) (sym (get_or-set_other es p k e d (not_same k p is))) old

-- what is so of all entries, and of one that is put in place, is so of all then
after_set : (P : ℕ → Entry → Type 0) (es : List Entry) (p : ℕ) (e : Entry) → p < length es → P p e → ((k : ℕ) (d : Entry) → k < ENTRIES → P k (slice_index_or es k d))
    → (k : ℕ) (d : Entry) → k < ENTRIES → P k (slice_index_or (slice_set es p e) k d)
after_set P es p e within new old k d h = by_place P es p k e d (k == p) refl within new (old k d h)

entry_put : (v : View) (t : Table) (a p : ℕ) (e : Entry) → p ≡ place a → e.key < t.first + 2 ^ 32 → Holds v t.first p e → Agrees v t → Agrees v (record t { entries = slice_set t.entries p e })
entry_put v t a p e at below holds agrees =
    let within : p < length t.entries = rw agrees.0.2 (rw at (place_within a)) in (
      (agrees.0.0, agrees.0.1, length-set t.entries p e ∙ agrees.0.2, after_set (λ k x. x.key < t.first + 2 ^ 32) t.entries p e within below agrees.0.3),
      after_set (Holds v t.first) t.entries p e within holds agrees.1,
    )

pub learnt_agrees : (v : View) (t : Table) (a p : ℕ) (e : Entry) → p ≡ place a → a < 2 ^ 32 → a % 4 ≡ 0 → HasFields (meaning e.instruction) → IsKnown v a (meaning e.instruction) → e.key ≡ t.first + a → Agrees v t
    → Agrees v (record t { entries = slice_set t.entries p e })
learnt_agrees v t a p e at small whole fields known key agrees = entry_put v t a p e at (omega (arith, key, small)) (λ b is.
    let equal : a ≡ b = omega (arith, key, is) in
    subst (λ (n : ℕ). (n % 4 ≡ 0) × (place n ≡ p) × HasFields (meaning e.instruction) × IsKnown v n (meaning e.instruction)) equal (whole, sym at, fields, known)) agrees

-- an entry that keeps nothing is put in place
pub dropped_agrees : (v : View) (t : Table) (a p : ℕ) (e : Entry) → p ≡ place a → e.key ≡ 0 → Agrees v t → Agrees v (record t { entries = slice_set t.entries p e })
dropped_agrees v t a p e at empty agrees =
    let some = agrees.0.0 in
    entry_put v t a p e at (omega (arith, empty, some)) (λ b is. absurd (omega (arith, empty, is, some))) agrees

place_of_word : (a : ℕ) → place (4 * (a / 4)) ≡ place a
place_of_word a = let e : 4 * (a / 4) / 4 ≡ a / 4 = omega arith in ap (λ (n : ℕ). n % ENTRIES) e

-- there is one place for a word
pub lacking : (v : View) (t : Table) (a p : ℕ) (e : Entry) → p ≡ place a → Agrees v t → ((slice_index_or t.entries p e).key ≡ t.first + 4 * (a / 4) → ⊥) → Lacks t a
lacking v t a p e at agrees none k d h is =
    let here : k ≡ p = sym ((agrees.1 k d h (4 * (a / 4)) is).1) ∙ place_of_word a ∙ sym at in
    let within : k < length t.entries = rw agrees.0.2 h in
    none (subst (λ (n : ℕ). (slice_index_or t.entries n e).key ≡ t.first + 4 * (a / 4)) here (ap (λ (x : Entry). x.key) (get_or_default t.entries k e d within) ∙ is))

pub dropped_lacks : (v : View) (t : Table) (a p : ℕ) (e : Entry) → p ≡ place a → e.key ≡ 0 → Agrees v t → Lacks (record t { entries = slice_set t.entries p e }) a
dropped_lacks v t a p e at empty agrees =
    let within : p < length t.entries = rw agrees.0.2 (rw at (place_within a)) in
    let some = agrees.0.0 in
    lacking v (record t { entries = slice_set t.entries p e }) a p e at (dropped_agrees v t a p e at empty agrees)
    (λ is. let zero : e.key ≡ t.first + 4 * (a / 4) = ap (λ (x : Entry). x.key) (sym (get_or-set_same t.entries p e e within)) ∙ is in omega (arith, zero, empty, some))

-- an entry with the key of an address has the instruction there
pub hit_holds : (v : View) (t : Table) (a p : ℕ) (e : Entry) → p ≡ place a → Agrees v t → Hits t a
    → (a % 4 ≡ 0) × HasFields (meaning ((slice_index_or t.entries p e).instruction)) × IsKnown v a (meaning ((slice_index_or t.entries p e).instruction))
hit_holds v t a p e at agrees hits =
    let holds = agrees.1 p e (rw at (place_within a)) a (rw at (hits e)) in
    (holds.0, holds.2, holds.3)

-- in the next generation nothing is kept
pub next_keeps_nothing : (v : View) (t u : Table) → IsBounded t.first t.entries → u.entries ≡ t.entries → u.first ≡ t.first + 2 ^ 32 → u.first ≤ 2 ^ 64 - 2 ^ 32 → Agrees v u
next_keeps_nothing v t u bounded entries first within = (
  (omega (arith, bounded.0, first), within, rw entries bounded.2, λ k d h. rw entries (let below = bounded.3 k d h in omega (arith, below, first))),
  λ k d h a is. absurd (let below = bounded.3 k d h in let key : (slice_index_or t.entries k d).key ≡ u.first + a = ap (λ (es : List Entry). (slice_index_or es k d).key) (sym entries) ∙ is in omega (arith, below, key, first)),
)

-- empty entries are of no generation
pub empty_keeps_nothing : (v : View) (t : Table) (e : Entry) → e.key ≡ 0 → t.first ≡ 2 ^ 32 → t.entries ≡ replicate ENTRIES e → Agrees v t
empty_keeps_nothing v t e empty first entries =
    let each : (k : ℕ) (d : Entry) → k < ENTRIES → (slice_index_or t.entries k d).key ≡ 0 =
    λ k d h. ap (λ (x : Entry). x.key) (ap (λ (es : List Entry). slice_index_or es k d) entries ∙ get_or-replicate ENTRIES k e d h) ∙ empty in (
      (omega (arith, first), omega (arith, first), ap length entries ∙ length-replicate ENTRIES e, λ k d h. let zero = each k d h in omega (arith, zero, first)),
      λ k d h a is. absurd (let zero = each k d h in omega (arith, zero, is, first)),
    )
