use Rattle.std.proofs.Common.{◌+◌, ◌*◌, ◌-◌, ◌≤◌, ◌∷◌, length}
use Rattle.space_model.specs.Space.{top_of}
use Rattle.run_model.specs.Demand.{left_of}
use Rattle.demand_eval.specs.Turns.{IsSoundBelow}
use Rattle.explain_core.specs.Going.{SoFar}
use Rattle.explain_core.specs.Watch.{kept_of}
use Rattle.explain_core.proofs.going.+go.Given as goal

abbrev pub decreases-go : goal.decreases-go
decreases-go l = 3 * length l.path.now

abbrev pub decreases-go_through : goal.decreases-go_through
decreases-go_through l = 3 * length l.rest.now + 2

abbrev pub decreases-go_below : goal.decreases-go_below
decreases-go_below l = 3 * length l.rest.now + 1

abbrev pub invariant-go_through-turns : goal.invariant-go_through-turns
invariant-go_through-turns l = SoFar (8 - l.depth) (l.number ∷ l.rest) l.asked l.wanted l.left (kept_of l.fn.kept) (kept_of l.kept) l.fn.space l.space × (1 ≤ l.left) × (l.left ≤ l.wanted) × IsSoundBelow (8 - l.depth) l.space

abbrev pub decreases-go_through-turns : goal.decreases-go_through-turns
decreases-go_through-turns l = left_of (top_of l.space)
