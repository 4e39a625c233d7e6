-- How many levels boxed spaces in a list make, as children do.
use Rattle.std.proofs.Common.{◌≡◌, ℕ, suc, ◌+◌, List, [], ◌∷◌, refl, ap, arith}
use Rattle.std.specs.Prelude.{max, min}
use Rattle.std.specs.Map.{values_of}
use Rattle.std.specs.declared.boxed.Box.{Box}
use Rattle.std.specs.declared.alloc.Global.{Global}
use Rattle.space_model.specs.Space.{Space, height, levels_of}
use Rattle.space_tree.specs.Kept.{children_in}

abbrev pub most_levels : List (Box Space Global) → ℕ
most_levels [] = 0
most_levels (b ∷ rest) = max (suc (height b.value)) (most_levels rest)

pub most_levels_values : (es : List (ℕ × Box Space Global)) → most_levels (values_of es) ≡ levels_of (children_in es)
most_levels_values [] = refl
most_levels_values (e ∷ es) = ap (max (suc (height e.1.value))) (most_levels_values es)

-- one more child, where both are cut off at 255
pub one_more : (m h r : ℕ) → min (max (max m (min (min h 255 + 1) 255)) r) 255 ≡ min (max m (max (suc h) r)) 255
one_more m h r = omega arith
