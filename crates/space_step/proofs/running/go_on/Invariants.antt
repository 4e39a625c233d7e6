use Rattle.std.proofs.Common.{◌-◌, ◌≤◌}
use Rattle.instruction_model.specs.Outcome.{view_of}
use Rattle.space_model.specs.Event.{Follows}
use Rattle.space_step.proofs.running.go_on.Given as goal

abbrev pub invariant-stretches : goal.invariant-stretches
invariant-stretches g l = Follows (8 - l.fn.depth) l.ran l.fn.top l.top × (l.ran ≤ l.fn.quantum) × g.S.Source.agrees l.source (view_of l.top.memory)

abbrev pub decreases-stretches : goal.decreases-stretches
decreases-stretches g l = l.quantum - l.ran
