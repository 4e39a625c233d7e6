use Rattle.std.proofs.Common.{◌-◌, ◌≤◌}
use Rattle.instruction_model.specs.Outcome.{view_of}
use Rattle.det_host.specs.Writing.{output_of}
use Rattle.space_step.specs.ToSink.{GoesTo}
use Rattle.space_step.proofs.streaming.go_on_to.Given as goal

abbrev pub invariant-stretches : goal.invariant-stretches
invariant-stretches g l = record {
  goes : GoesTo (8 - l.fn.depth) l.ran (output_of g.O.Sink.taken g.O.Sink.faults l.fn.out l.out) l.fn.top l.top;
  within : l.ran ≤ l.fn.quantum;
  agrees : g.S.Source.agrees l.source (view_of l.top.memory);
  later : g.O.Sink.faults l.fn.out ≤ g.O.Sink.faults l.out;
}

abbrev pub decreases-stretches : goal.decreases-stretches
decreases-stretches g l = l.quantum - l.ran
