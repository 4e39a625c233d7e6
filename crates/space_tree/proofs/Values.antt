-- Whether boxed spaces in a list have settled, as children have.
use Rattle.std.proofs.Common.{◌≡◌, ℕ, Bool, true, false, cond, List, [], ◌∷◌, refl, ap}
use Rattle.std.specs.Map.{values_of}
use Rattle.std.specs.declared.boxed.Box.{Box}
use Rattle.std.specs.declared.alloc.Global.{Global}
use Rattle.space_model.specs.Space.{Space, is_settled, are_settled}
use Rattle.space_tree.specs.Kept.{children_in}

abbrev pub all_settled : List (Box Space Global) → Bool
all_settled [] = true
all_settled (b ∷ rest) = cond (is_settled b.value) (all_settled rest) false

pub all_settled_values : (es : List (ℕ × Box Space Global)) → all_settled (values_of es) ≡ are_settled (children_in es)
all_settled_values [] = refl
all_settled_values (e ∷ es) = ap (λ b. cond (is_settled e.1.value) b false) (all_settled_values es)
