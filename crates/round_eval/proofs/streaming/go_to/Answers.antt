use Rattle.std.proofs.Common.{◌≡◌, ◌∙◌, Err, ap, arith}
use Rattle.det_host.specs.declared.sink.SinkError.TheVariants.{Failed}
use Rattle.demand_eval.proofs.Streams.{begins_same, begins_then, lags_then, writes_then}
use Rattle.round_eval.specs.Apart.{ByOneQuantum}
use Rattle.round_eval.proofs.Later.{later_fewer, later_settles, later_sound, later_then}
use Rattle.round_eval.proofs.RootFirst.{one_quantum_from}
use Rattle.round_eval.proofs.streaming.go_to.Goals as goal

pub rounds-preserved : goal.rounds-preserved
rounds-preserved g c =
    let later = c.in-Ok-true.ensures.ok in
    record {
      reached = later_then _ _ _ _ _ c.rounds.invariant.reached later;
      same = later_settles _ _ _ later c.rounds.invariant.sound ∙ c.rounds.invariant.same;
      sound = later_sound _ _ _ later c.rounds.invariant.sound;
      writes = writes_then _ _ _ (g.O.Sink.faults c.args.out.now) (g.O.Sink.faults c.rounds.out) (g.O.Sink.faults c.round_to.new.out) c.args.space.now c.rounds.space c.round_to.new.space c.rounds.invariant.writes c.in-Ok-true.ensures.writes;
      later = omega (arith, c.rounds.invariant.later, c.in-Ok-true.ensures.later);
    }

pub returns-in-Err-clause-failed : goal.returns-in-Err-clause-failed
returns-in-Err-clause-failed g c = λ failed.
    let same : c.in-Err.error ≡ Failed = cc in
    lags_then _ (ByOneQuantum c.args.quantum) _ _ _ (g.O.Sink.faults c.args.out.now) _ _ c.args.space.now c.rounds.space _ c.rounds.invariant.later c.rounds.invariant.same
    (λ count h. one_quantum_from _ _ count _ _ _ c.rounds.invariant.reached h) c.rounds.invariant.writes (c.in-Err.ensures.failed (ap Err same))

pub returns-in-Err-clause-begins : goal.returns-in-Err-clause-begins
returns-in-Err-clause-begins g c =
    begins_then _ _ _ (g.O.Sink.faults c.args.out.now) _ _ c.args.space.now c.rounds.space c.rounds.invariant.same c.rounds.invariant.writes c.in-Err.ensures.begins

pub returns-in_default-clause-begins : goal.returns-in_default-clause-begins
returns-in_default-clause-begins g c = begins_same (g.O.Sink.taken c.args.out.now) (g.O.Sink.faults c.args.out.now) (g.O.Sink.faults c.args.out.now) c.args.space.now

pub rounds-smaller : goal.rounds-smaller
rounds-smaller g c = let later = rw c.in-Ok-true.field-0-test at c.in-Ok-true.ensures.ok in later_fewer _ _ later c.rounds.invariant.sound

pub returns-in-Ok-false-clause-same : goal.returns-in-Ok-false-clause-same
returns-in-Ok-false-clause-same g c = later_settles _ _ _ c.in-Ok-false.ensures.ok c.rounds.invariant.sound ∙ c.rounds.invariant.same

pub returns-in-Ok-false-clause-sound : goal.returns-in-Ok-false-clause-sound
returns-in-Ok-false-clause-sound g c = later_sound _ _ _ c.in-Ok-false.ensures.ok c.rounds.invariant.sound

pub returns-in-Ok-false-clause-reached : goal.returns-in-Ok-false-clause-reached
returns-in-Ok-false-clause-reached g c = later_then _ _ _ _ _ c.rounds.invariant.reached c.in-Ok-false.ensures.ok
