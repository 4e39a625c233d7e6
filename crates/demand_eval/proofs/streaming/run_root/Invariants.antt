use Rattle.std.proofs.Common.{◌≡◌, ℕ, ◌≤◌}
use Rattle.space_model.specs.Space.{top_of}
use Rattle.space_model.specs.Sound.{IsSound}
use Rattle.run_model.specs.Demand.{run, left_of}
use Rattle.det_host.specs.Writing.{output_of}
use Rattle.demand_eval.specs.Turns.{by_demand}
use Rattle.demand_eval.specs.Streams.{Writes}
use Rattle.demand_eval.proofs.streaming.run_root.Given as goal

abbrev pub invariant-turns : goal.invariant-turns
invariant-turns g l = record {
  came : (n : ℕ) × (l.space ≡ by_demand 8 n l.fn.space);
  same : run 8 l.space ≡ run 8 l.fn.space;
  sound : IsSound l.space;
  writes : Writes (output_of g.O.Sink.taken g.O.Sink.faults l.fn.out l.out) l.fn.space l.space;
  later : g.O.Sink.faults l.fn.out ≤ g.O.Sink.faults l.out;
}

abbrev pub decreases-turns : goal.decreases-turns
decreases-turns g l = left_of (top_of l.space)
