use Rattle.std.proofs.Common.{◌≡◌, ℕ, List, length}
use Rattle.node_places.specs.Places.{IsAbove, place_of}
use Rattle.node_places.proofs.places.Places.leave.Given as goal

abbrev pub invariant-loop-below : goal.invariant-loop-below
invariant-loop-below l = (l.self.nodes ≡ l.fn.self.nodes) × ((q : List ℕ) → (IsAbove l.path.items q → ⊥) → place_of l.self q ≡ place_of l.fn.self q)

abbrev pub decreases-loop-below : goal.decreases-loop-below
decreases-loop-below l = length l.self.away
