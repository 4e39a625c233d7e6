-- Children in a row, by their places.
use Rattle.std.proofs.Common.{◌≡◌, ℕ, zero, suc, ◌+◌, ◌<◌, length, Some, refl, ap, ◌∙◌, arith}
use Rattle.std.specs.Prelude.{slice_get}
use Rattle.space_model.specs.Meeting.{itself, in_row}

pub row_length : (first count : ℕ) → length (in_row first count) ≡ count
row_length first zero = refl
row_length first (suc count) = ap suc (row_length (first + 1) count)

pub row_item : (first count i : ℕ) → i < count → slice_get (in_row first count) i ≡ Some (itself (first + i))
row_item first zero i h = absurd (omega arith)
row_item first (suc count) zero h = let same : first ≡ first + 0 = omega arith in ap (λ n. Some (itself n)) same
row_item first (suc count) (suc i) h =
    let same : first + 1 + i ≡ first + suc i = omega arith in
    row_item (first + 1) count i (omega arith) ∙ ap (λ n. Some (itself n)) same
