-- The order of paths: a path comes before those that go on from it; of two others the first number in which they differ decides.
-- Our choice: the order of words in a dictionary (lexicographic order), in which the report has its lines.
use Rattle.std.specs.Prelude.{◌≡◌, ℕ, ◌<◌, ◌⊎◌, ◌↔◌, List, [], ◌∷◌, Some}
use Rattle.std.specs.List.{All, Contains}
use Rattle.space_model.specs.Space.{Space}
use Rattle.space_model.specs.Path.{at}

abbrev pub IsBefore : List ℕ → List ℕ → Type 0
IsBefore p [] = ⊥
IsBefore [] (m ∷ q) = Unit {0}
IsBefore (n ∷ p) (m ∷ q) = (n < m) ⊎ ((n ≡ m) × IsBefore p q)

-- each path comes before all that follow it in the list, so none is there twice
abbrev pub IsRising : List (List ℕ) → Type 0
IsRising [] = Unit {0}
IsRising (p ∷ ps) = All (IsBefore p) ps × IsRising ps

-- a space stands at a path
abbrev pub StandsAt : List ℕ → Space → Type 0
StandsAt p s = (c : Space) × (at p s ≡ Some c)

-- the paths at which spaces of a tree stand, in their order
pub record ArePaths (ps : List (List ℕ)) (s : Space) : Type 0 where
  pub rising : IsRising ps
  pub all : (p : List ℕ) → Contains ps p ↔ StandsAt p s
