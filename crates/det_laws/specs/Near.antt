-- What an event at a path reaches: the way to it, and the children that its call awaits.
-- Our choice: names for the parts of a tree in which an event may let others happen.
use Rattle.std.specs.Prelude.{◌≡◌, ℕ, ◌==◌, ◌||◌, ◌⊎◌, Bool, true, false, List, [], ◌∷◌}
use Rattle.space_model.specs.declared.Await.{Await}

-- a child of this number is awaited
abbrev pub is_awaited : ℕ → List Await → Bool
is_awaited n [] = false
is_awaited n (a ∷ others) = (n == a.number) || is_awaited n others

-- p is q, or stands above it
abbrev pub IsOnWay : List ℕ → List ℕ → Type 0
IsOnWay [] q = Unit {0}
IsOnWay (n ∷ p) [] = ⊥
IsOnWay (n ∷ p) (m ∷ q) = (n ≡ m) × IsOnWay p q

-- the path of a child that is awaited
abbrev pub IsAwaitedChild : List Await → List ℕ → Type 0
IsAwaitedChild all [] = ⊥
IsAwaitedChild all (n ∷ []) = is_awaited n all ≡ true
IsAwaitedChild all (n ∷ m ∷ p) = ⊥

-- p is a child of q, and awaited
abbrev pub IsAwaitedBelow : List Await → List ℕ → List ℕ → Type 0
IsAwaitedBelow all p [] = IsAwaitedChild all p
IsAwaitedBelow all [] (m ∷ q) = ⊥
IsAwaitedBelow all (n ∷ p) (m ∷ q) = (n ≡ m) × IsAwaitedBelow all p q

abbrev pub IsNear : List Await → List ℕ → List ℕ → Type 0
IsNear all p q = IsOnWay p q ⊎ IsAwaitedBelow all p q
