use Rattle.std.proofs.Common.{◌-◌, ◌≤◌, []}
use Rattle.space_model.specs.Space.{top_of}
use Rattle.run_model.specs.Demand.{left_of}
use Rattle.demand_eval.specs.Turns.{IsSoundBelow}
use Rattle.explain_core.specs.Going.{SoFar}
use Rattle.explain_core.specs.Watch.{kept_of}
use Rattle.explain_core.proofs.going.go_itself.Given as goal

abbrev pub invariant-turns : goal.invariant-turns
invariant-turns l = SoFar (8 - l.depth) [] l.asked l.wanted l.left (kept_of l.fn.kept) (kept_of l.kept) l.fn.space l.space × (1 ≤ l.left) × (l.left ≤ l.wanted) × IsSoundBelow (8 - l.depth) l.space

abbrev pub decreases-turns : goal.decreases-turns
decreases-turns l = left_of (top_of l.space)
