-- A text that has a part for each of some things, and the paths of the spaces of a tree.
-- Our choice: a restatement of "for each, in their order".
use Rattle.std.specs.Prelude.{◌≡◌, ℕ, zero, suc, List, [], ◌∷◌, ◌++◌}
use Rattle.space_model.specs.Space.{Space, space, Children, none, child}

-- a part for each, one behind the other
abbrev pub HasParts : {X : Type 0} → (X → List ℕ → Type 0) → List X → List ℕ → Type 0
HasParts part [] text = text ≡ []
HasParts part (x ∷ xs) text = (first : List ℕ) × (rest : List ℕ) × part x first × HasParts part xs rest × (text ≡ first ++ rest)

-- 0, 1 and so on, so many
unfoldable pub numbers_below : ℕ → List ℕ
numbers_below zero = []
numbers_below (suc n) = numbers_below n ++ n ∷ []

-- the paths of a space and of all below it, a parent before its children, and children by rising number
unfoldable mutual
  pub paths_from : List ℕ → Space → List (List ℕ)
  paths_from p (space t cs) = p ∷ paths_below p cs

  pub paths_below : List ℕ → Children → List (List ℕ)
  paths_below p none = []
  paths_below p (child n s rest) = paths_from (p ++ n ∷ []) s ++ paths_below p rest
