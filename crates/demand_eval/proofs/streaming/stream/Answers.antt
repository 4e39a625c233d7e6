use Rattle.det_host.specs.Writing.{output_of}
use Rattle.demand_eval.proofs.Everyone.{ran_sound, run_then}
use Rattle.demand_eval.proofs.Streams.{begins_written, ran_same, sound_below, writes_settled}
use Rattle.demand_eval.proofs.streaming.stream.Goals as goal

pub settle_children-requires-clause-sound : goal.settle_children-requires-clause-sound
settle_children-requires-clause-sound g c = ran_sound _ _ _ (sound_below _ c.requires) c.in_default.ensures.ok

pub returns-in-Ok-clause-ok : goal.returns-in-Ok-clause-ok
returns-in-Ok-clause-ok g c = run_then _ _ _ _ c.in_default.ensures.ok c.in-Ok.ensures

pub returns-in-Ok-clause-writes : goal.returns-in-Ok-clause-writes
returns-in-Ok-clause-writes g c = writes_settled (output_of g.O.Sink.taken g.O.Sink.faults c.args.out.now c.run_root.new.out) c.args.space.now c.run_root.new.space c.settle_children.new.space c.in-Ok.ensures c.in_default.ensures.writes

pub returns-in-Err-settle_children-clause-begins : goal.returns-in-Err-settle_children-clause-begins
returns-in-Err-settle_children-clause-begins g c =
    begins_written _ _ (g.O.Sink.faults c.args.out.now) (g.O.Sink.faults c.run_root.new.out) c.args.space.now c.run_root.new.space (ran_same _ _ c.in_default.ensures.ok) c.in_default.ensures.writes
