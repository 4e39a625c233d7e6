use Rattle.round_eval.proofs.Later.{then_either, then_second}
use Rattle.round_eval.proofs.round.round.Goals as goal

pub returns-then-went : goal.returns-then-went
returns-then-went g c =
    then_either c.in_ok-went.went c.in_ok-met.met c.args.space.now c.go_all.new.space c.meet_all.new.space c.if-went.true c.in_ok-went.ensures c.in_ok-met.ensures

pub returns-else-went : goal.returns-else-went
returns-else-went g c =
    then_second c.in_ok-went.went c.in_ok-met.met c.args.space.now c.go_all.new.space c.meet_all.new.space c.if-went.false c.in_ok-went.ensures c.in_ok-met.ensures
