-- The children of a row, from its first number on.
use Rattle.std.specs.Prelude.{◌≡◌, ℕ, zero, suc, ◌+◌, ◌∷◌, List, Some, None, option_map}
use Rattle.std.proofs.Common.{refl, sym, ap, ◌∙◌}
use Rattle.space_model.specs.Space.{Space, Children, Top, top_of, find}
use Rattle.space_model.specs.Call.{Seen, sees_top, seen_of}
use Rattle.space_model.specs.Meeting.{in_row}
use Rattle.space_model.specs.Quanta.{Thread, threads}
use Rattle.quantum_model.specs.Rows.{threads_in}

-- where the first is missing
pub row_missing : (first count : ℕ) (cs : Children) → find first cs ≡ None → threads_in first (suc count) cs ≡ threads_in (first + 1) count cs
row_missing first count cs none = ap (λ o. threads first (sees_top (option_map top_of o) ∷ seen_of (in_row (first + 1) count) cs)) none

-- where it is there
pub row_there : (first count : ℕ) (s : Space) (cs : Children) → find first cs ≡ Some s → threads_in first (suc count) cs ≡ record { number = first; top = top_of s } ∷ threads_in (first + 1) count cs
row_there first count s cs there = ap (λ o. threads first (sees_top (option_map top_of o) ∷ seen_of (in_row (first + 1) count) cs)) there
