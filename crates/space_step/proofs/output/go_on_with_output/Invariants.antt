use Rattle.std.proofs.Common.{◌-◌, ◌≤◌}
use Rattle.instruction_model.specs.Outcome.{view_of}
use Rattle.space_step.specs.Output.{GoesWithOutput}
use Rattle.space_step.proofs.output.go_on_with_output.Given as goal

abbrev pub invariant-stretches : goal.invariant-stretches
invariant-stretches g l = record {
  goes : GoesWithOutput (8 - l.fn.depth) l.enough l.ran l.fn.output.items l.output.items l.fn.top l.top;
  within : l.ran ≤ l.fn.quantum;
  agrees : g.S.Source.agrees l.source (view_of l.top.memory);
}

abbrev pub decreases-stretches : goal.decreases-stretches
decreases-stretches g l = l.quantum - l.ran
