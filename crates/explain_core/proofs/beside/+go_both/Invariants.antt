use Rattle.std.proofs.Common.{◌+◌, ◌*◌, ◌-◌, ◌∷◌, length}
use Rattle.space_model.specs.Space.{top_of}
use Rattle.run_model.specs.Demand.{left_of}
use Rattle.demand_eval.specs.Turns.{IsSoundBelow}
use Rattle.explain_core.proofs.BothSides.{BothSoFar}
use Rattle.explain_core.proofs.beside.+go_both.Given as goal

abbrev pub decreases-go_both : goal.decreases-go_both
decreases-go_both l = 3 * length l.path.now

abbrev pub decreases-both_through : goal.decreases-both_through
decreases-both_through l = 3 * length l.rest.now + 2

abbrev pub decreases-both_below : goal.decreases-both_below
decreases-both_below l = 3 * length l.rest.now + 1

abbrev pub invariant-both_through-turns : goal.invariant-both_through-turns
invariant-both_through-turns l = BothSoFar (8 - l.depth) (l.first ∷ l.rest) l.number l.asked l.fn.sides l.sides l.fn.space l.space × IsSoundBelow (8 - l.depth) l.space

abbrev pub decreases-both_through-turns : goal.decreases-both_through-turns
decreases-both_through-turns l = left_of (top_of l.space)
