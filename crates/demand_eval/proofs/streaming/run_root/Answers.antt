use Rattle.std.proofs.Common.{◌≡◌, ◌∙◌, Err, ap, arith, refl}
use Rattle.det_host.specs.declared.sink.SinkError.TheVariants.{Failed}
use Rattle.demand_eval.specs.Streams.{ByOneEvent}
use Rattle.demand_eval.proofs.ByDemand.{demand-none, one_event_from}
use Rattle.demand_eval.proofs.Turns.{came_further}
use Rattle.demand_eval.proofs.Streams.{begins_then, lags_then, same_end, still_sound, writes_none, writes_then}
use Rattle.demand_eval.proofs.streaming.run_root.Goals as goal

pub turns-init : goal.turns-init
turns-init g c = record {
  came = (0, demand-none 8 c.args.space.now);
  same = refl;
  sound = c.requires;
  writes = writes_none (g.O.Sink.taken c.args.out.now) (g.O.Sink.faults c.args.out.now) c.args.space.now;
  later = omega arith;
}

pub turns-preserved : goal.turns-preserved
turns-preserved g c =
    let on = rw c.in-Ok-false.field-0-test at c.in-Ok-false.ensures.ok in
    record {
      came = came_further 8 _ _ _ c.turns.invariant.came on;
      same = on.same ∙ c.turns.invariant.same;
      sound = still_sound _ _ c.turns.invariant.sound on.same on.sound;
      writes = writes_then _ _ _ (g.O.Sink.faults c.args.out.now) (g.O.Sink.faults c.turns.out) (g.O.Sink.faults c.turn_root.new.out) c.args.space.now c.turns.space c.turn_root.new.space c.turns.invariant.writes c.in-Ok-false.ensures.writes;
      later = omega (arith, c.turns.invariant.later, c.in-Ok-false.ensures.later);
    }

pub returns-in-Err-clause-failed : goal.returns-in-Err-clause-failed
returns-in-Err-clause-failed g c = λ failed.
    let same : c.in-Err.error ≡ Failed = cc in
    lags_then _ ByOneEvent _ _ _ (g.O.Sink.faults c.args.out.now) _ _ c.args.space.now c.turns.space _ c.turns.invariant.later (same_end _ _ c.turns.invariant.same)
    (λ count h. one_event_from c.turns.invariant.came.0 count _ _ _ c.turns.invariant.came.1 h) c.turns.invariant.writes (c.in-Err.ensures.failed (ap Err same))

pub returns-in-Err-clause-begins : goal.returns-in-Err-clause-begins
returns-in-Err-clause-begins g c =
    begins_then _ _ _ (g.O.Sink.faults c.args.out.now) _ _ c.args.space.now c.turns.space (same_end _ _ c.turns.invariant.same) c.turns.invariant.writes c.in-Err.ensures.begins
