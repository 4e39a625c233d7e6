use Rattle.std.proofs.Common.{◌≡◌, Err, ap, arith}
use Rattle.det_host.specs.declared.sink.SinkError.TheVariants.{Failed}
use Rattle.demand_eval.proofs.Turns.{turned}
use Rattle.demand_eval.proofs.Streams.{begins_behind, begins_written, sound_below, stops_behind, went_same, writes_behind}
use Rattle.demand_eval.proofs.streaming.turn_root.Goals as goal

pub returns-in-Err-clause-failed : goal.returns-in-Err-clause-failed
returns-in-Err-clause-failed g c = λ failed.
    let same : c.in-Err.error ≡ Failed = cc in
    stops_behind _ _ _ _ _ c.requires c.space.view_is (c.in-Err.ensures.failed (ap Err same))

pub returns-in-Err-clause-begins : goal.returns-in-Err-clause-begins
returns-in-Err-clause-begins g c = begins_behind _ _ _ _ _ c.space.view_is c.in-Err.ensures.partly

pub returns-in-Err-meet_next-clause-begins : goal.returns-in-Err-meet_next-clause-begins
returns-in-Err-meet_next-clause-begins g c =
    let went = c.in-Ok.ensures.ok in
    begins_written _ _ (g.O.Sink.faults c.args.out.now) (g.O.Sink.faults c.advance_to.new.out) c.args.space.now _ (went_same _ _ _ _ _ c.space.view_is went.goes.follows)
    (writes_behind _ _ _ _ _ _ c.space.view_is went.goes)

pub returns-in-Ok-meet_next-clause-ok : goal.returns-in-Ok-meet_next-clause-ok
returns-in-Ok-meet_next-clause-ok g c =
    let went = c.in-Ok.ensures.ok in
    turned _ _ _ _ _ _ _ _ _ _ (sound_below _ c.requires) c.space.view_is went.goes.follows (omega arith) went.ended c.in-Ok-meet_next.ensures
