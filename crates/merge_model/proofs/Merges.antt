-- The laws of a merge: its bytes, and where it names no conflict and the first one.
use Rattle.std.specs.Prelude.{◌≡◌, ℕ, ◌+◌, ◌-◌, ◌*◌, ◌<◌, ◌≤◌, ◌⊎◌, Bool, true, false, not, Some, None}
use Rattle.std.proofs.Common.{◌∙◌, ap, arith, inl, inr}
use Rattle.memory_model.specs.Memory.{Memory, byte_at}
use Rattle.memory_model.proofs.Rows.{value_at-row_before, value_at-row_key, value_at-row_after}
use Rattle.memory_model.proofs.Runs.{first_without-none, first_without-some}
use Rattle.merge_model.specs.Merge.{is_conflict, first_conflict, merged_byte, with_merge}

-- in the range each byte is the merged one
pub byte_at-with_merge : (s c p : Memory) (first count a : ℕ) → 4096 * first ≤ a → a < 4096 * (first + count) → byte_at (with_merge s c p first count) a ≡ merged_byte s c p a
byte_at-with_merge s c p first count a from to =
    let same : 4096 * first + (a - 4096 * first) ≡ a = omega arith in
    value_at-row_key p.bytes (4096 * first) (λ k. merged_byte s c p (4096 * first + k)) (4096 * count) a from (omega arith) ∙ ap (merged_byte s c p) same

-- outside of it each is the parent's
pub byte_at-with_merge_out : (s c p : Memory) (first count a : ℕ) → (a < 4096 * first) ⊎ (4096 * (first + count) ≤ a) → byte_at (with_merge s c p first count) a ≡ byte_at p a
byte_at-with_merge_out s c p first count a (inl before) = value_at-row_before p.bytes (4096 * first) (λ k. merged_byte s c p (4096 * first + k)) (4096 * count) a before
byte_at-with_merge_out s c p first count a (inr after) = value_at-row_after p.bytes (4096 * first) (λ k. merged_byte s c p (4096 * first + k)) (4096 * count) a (omega arith)

-- no address of the range is in conflict
pub first_conflict-none : (agree : Bool) (s c p : Memory) (first count : ℕ) → ((a : ℕ) → 4096 * first ≤ a → a < 4096 * (first + count) → is_conflict agree s c p a ≡ false) → first_conflict agree s c p first count ≡ None
first_conflict-none agree s c p first count none =
    first_without-none (λ a. not (is_conflict agree s c p a)) (4096 * first) (4096 * count) (λ k below. ap not (none (4096 * first + k) (omega arith) (omega arith)))

-- an address of the range is the least in conflict
pub first_conflict-some : (agree : Bool) (s c p : Memory) (first count a : ℕ) → 4096 * first ≤ a → a < 4096 * (first + count) → ((b : ℕ) → 4096 * first ≤ b → b < a → is_conflict agree s c p b ≡ false) → is_conflict agree s c p a ≡ true → first_conflict agree s c p first count ≡ Some a
first_conflict-some agree s c p first count a from to none here =
    let same : 4096 * first + (a - 4096 * first) ≡ a = omega arith in
    first_without-some (λ b. not (is_conflict agree s c p b)) (4096 * first) (4096 * count) (a - 4096 * first) (omega arith)
    (λ k below. ap not (none (4096 * first + k) (omega arith) (omega arith)))
    (ap (λ b. not (is_conflict agree s c p b)) same ∙ ap not here)
    ∙ ap (λ b. Some b) same
