use Rattle.std.proofs.Common.{◌≡◌, ◌≤◌, false}
use Rattle.space_model.specs.Sound.{IsSound}
use Rattle.run_model.specs.Demand.{settle_tree}
use Rattle.det_host.specs.Writing.{output_of}
use Rattle.det_laws.specs.Tree.{events_left}
use Rattle.demand_eval.specs.Streams.{Writes}
use Rattle.round_eval.specs.Later.{IsLater}
use Rattle.round_eval.proofs.streaming.go_to.Given as goal

abbrev pub invariant-rounds : goal.invariant-rounds
invariant-rounds g l = record {
  reached : IsLater false l.fn.space l.space;
  same : settle_tree l.space ≡ settle_tree l.fn.space;
  sound : IsSound l.space;
  writes : Writes (output_of g.O.Sink.taken g.O.Sink.faults l.fn.out l.out) l.fn.space l.space;
  later : g.O.Sink.faults l.fn.out ≤ g.O.Sink.faults l.out;
}

abbrev pub decreases-rounds : goal.decreases-rounds
decreases-rounds g l = events_left l.space
