use Rattle.round_eval.proofs.Later.{then_either, then_second}
use Rattle.round_eval.proofs.round.begin_all.Goals as goal

pub loop-runner-preserved-then-some : goal.loop-runner-preserved-then-some
loop-runner-preserved-then-some c =
    then_either c.loop-runner.some c.in_ok-went.went c.args.space.now c.loop-runner.space c.begin.new.space c.if-some.true c.loop-runner.invariant c.in_ok-went.ensures

pub loop-runner-preserved : goal.loop-runner-preserved
loop-runner-preserved c =
    then_second c.loop-runner.some c.in_ok-went.went c.args.space.now c.loop-runner.space c.begin.new.space c.if-some.false c.loop-runner.invariant c.in_ok-went.ensures
