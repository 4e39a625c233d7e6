use Rattle.std.proofs.Common.{◌≡◌, ◌≤◌, ◌*◌, ◌++◌, Err, ap, length, subst, sym}
use Rattle.det_host.specs.declared.sink.SinkError.TheVariants.{Failed}
use Rattle.report_model.specs.Report.{console_of}
use Rattle.run_model.specs.Console.{most_output}
use Rattle.demand_eval.proofs.Streams.{begins_same}
use Rattle.round_eval.proofs.RootFirst.{begins_behind, fails_behind}
use Rattle.round_eval.proofs.streaming.round_to.Goals as goal

pub returns-in_default-clause-begins : goal.returns-in_default-clause-begins
returns-in_default-clause-begins g c = begins_same (g.O.Sink.taken c.args.out.now) (g.O.Sink.faults c.args.out.now) (g.O.Sink.faults c.args.out.now) c.args.space.now

pub returns-in-Err-clause-failed : goal.returns-in-Err-clause-failed
returns-in-Err-clause-failed g c = λ failed.
    let same : c.in-Err.error ≡ Failed = cc in
    fails_behind _ _ _ _ _ _ _ c.requires.sound c.in-Ok.ensures.ok (subst (λ l. console_of c.round_apart.new.space ≡ console_of c.args.space.now ++ l) (sym c.deref.ensures.value) c.in-Ok.ensures.console)
    (subst (λ l. length l ≤ c.args.quantum * most_output) (sym c.deref.ensures.value) c.in-Ok.ensures.bound) c.in-Ok.ensures.root (c.in-Err.ensures.failed (ap Err same))

pub returns-in-Err-clause-begins : goal.returns-in-Err-clause-begins
returns-in-Err-clause-begins g c =
    begins_behind _ _ _ _ _ c.requires.sound c.in-Ok.ensures.ok (subst (λ l. console_of c.round_apart.new.space ≡ console_of c.args.space.now ++ l) (sym c.deref.ensures.value) c.in-Ok.ensures.console)
    c.in-Err.ensures.prefix
