-- Paths in a list.
-- Our choice: a set of paths is the list of its paths.
use Rattle.std.specs.Prelude.{◌≡◌, ℕ, ◌⊎◌, List, [], ◌∷◌, map}
use Rattle.std.specs.Coded.{Coded, coded_list, coded_ℕ}
use Rattle.arrayvec.specs.ArrayVec.{ArrayVec}
use Rattle.space_model.specs.PathOrder.{IsBefore}

abbrev pub Paths : Type 0
Paths = List (List ℕ)

abbrev pub coded_paths : Coded Paths
coded_paths = coded_list (coded_list coded_ℕ)

abbrev pub paths_in : List (ArrayVec ℕ) → Paths
paths_in ps = map (λ p. p.items) ps

abbrev pub Has : Paths → List ℕ → Type 0
Has [] p = ⊥
Has (q ∷ qs) p = (p ≡ q) ⊎ Has qs p

-- without the first
abbrev pub rest_of : Paths → Paths
rest_of [] = []
rest_of (p ∷ ps) = ps

-- p is the first, and each other comes behind it
pub record IsFirst (p : List ℕ) (ps : Paths) : Type 0 where
  pub first : ps ≡ p ∷ rest_of ps
  pub least : (q : List ℕ) → Has ps q → (q ≡ p) ⊎ IsBefore p q

-- p was the first, and is taken out: each that is left comes behind it
pub record IsTakenFrom (p : List ℕ) (old new : Paths) : Type 0 where
  pub first : old ≡ p ∷ new
  pub behind : (q : List ℕ) → Has new q → IsBefore p q
