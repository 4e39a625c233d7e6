-- The paths of lines one after the other, as a loop takes them.
use Rattle.std.proofs.Common.{◌≡◌, ℕ, List, [], ◌∷◌, ◌++◌, ap, ◌∙◌}
use Rattle.std.proofs.lemmas.Grind.{flat_map-append}
use Rattle.std.proofs.lemmas.List.{append-nil}
use Rattle.schedule_model.specs.Schedule.{Item, paths_in, paths_from}

add_last : (front : List Item) (i : Item) → paths_from front ++ paths_in i ≡ paths_from (front ++ i ∷ [])
add_last front i = simp (flat_map-append, append-nil)

pub one_more : (paths : List (List ℕ)) (front : List Item) (i : Item) → paths ≡ paths_from front → paths ++ paths_in i ≡ paths_from (front ++ i ∷ [])
one_more paths front i made = ap (λ (l : List (List ℕ)). l ++ paths_in i) made ∙ add_last front i
