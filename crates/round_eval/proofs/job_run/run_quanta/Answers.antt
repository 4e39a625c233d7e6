use Rattle.std.proofs.Common.{arith}
use Rattle.space_step.proofs.Following.{follows_append}
use Rattle.round_eval.proofs.Quanta.{no_more}
use Rattle.round_eval.proofs.job_run.run_quanta.Goals as goal

pub returns-then-ne : goal.returns-then-ne
returns-then-ne c = follows_append _ _ _ _ _ _ c.quanta.invariant.0 c.in_ok-more.ensures.ok.follows

pub quanta-preserved : goal.quanta-preserved
quanta-preserved c =
    let few = no_more _ _ _ _ _ c.in_ok-more.ensures.ok.ended in
    (follows_append _ _ _ _ _ _ c.quanta.invariant.0 c.in_ok-more.ensures.ok.follows, omega (arith, c.quanta.invariant.1, few, c.min.ensures, c.quanta-test.true), c.args.pace.now.some_further)
