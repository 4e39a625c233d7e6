use Rattle.std.proofs.Common.{ap, ◌∙◌, subst, sym}
use Rattle.space_model.specs.Sound.{IsSound}
use Rattle.space_model.specs.Space.{is_settled}
use Rattle.run_model.proofs.Settled.{settled_sound, settled-settled}
use Rattle.demand_eval.proofs.Streams.{begins_same}
use Rattle.demand_eval.proofs.streaming.settle_on.Goals as goal

pub returns-in_default-clause-begins : goal.returns-in_default-clause-begins
returns-in_default-clause-begins g c = begins_same (g.O.Sink.taken c.args.out.now) (g.O.Sink.faults c.args.out.now) (g.O.Sink.faults c.args.out.now) c.args.space

pub returns-in-Ok-stream-clause-settled : goal.returns-in-Ok-stream-clause-settled
returns-in-Ok-stream-clause-settled g c = ap is_settled c.in-Ok-stream.ensures.ok ∙ settled-settled _ c.requires

pub returns-in-Ok-stream-clause-sound : goal.returns-in-Ok-stream-clause-sound
returns-in-Ok-stream-clause-sound g c = subst IsSound (sym c.in-Ok-stream.ensures.ok) (settled_sound _ c.requires)
