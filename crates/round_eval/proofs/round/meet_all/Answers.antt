use Rattle.round_eval.proofs.Later.{then_either, then_second}
use Rattle.round_eval.proofs.round.meet_all.Goals as goal

pub loop-path-preserved-then-some : goal.loop-path-preserved-then-some
loop-path-preserved-then-some c =
    then_either c.loop-path.some c.in_ok-went.went c.args.space.now c.loop-path.space c.meet_one.new.space c.if-some.true c.loop-path.invariant c.in_ok-went.ensures

pub loop-path-preserved : goal.loop-path-preserved
loop-path-preserved c =
    then_second c.loop-path.some c.in_ok-went.went c.args.space.now c.loop-path.space c.meet_one.new.space c.if-some.false c.loop-path.invariant c.in_ok-went.ensures
