use Rattle.std.proofs.Common.{◌-◌, []}
use Rattle.space_model.specs.Space.{top_of}
use Rattle.run_model.specs.Demand.{left_of}
use Rattle.demand_eval.specs.Turns.{IsSoundBelow}
use Rattle.explain_core.proofs.BothSides.{BothSoFar}
use Rattle.explain_core.proofs.beside.go_beside.Given as goal

abbrev pub invariant-turns : goal.invariant-turns
invariant-turns l = BothSoFar (8 - l.depth) [] l.number l.asked l.fn.sides l.sides l.fn.space l.space × IsSoundBelow (8 - l.depth) l.space

abbrev pub decreases-turns : goal.decreases-turns
decreases-turns l = left_of (top_of l.space)
