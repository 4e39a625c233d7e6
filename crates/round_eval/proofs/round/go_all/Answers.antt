use Rattle.round_eval.proofs.Later.{then_either, then_second}
use Rattle.round_eval.proofs.round.go_all.Goals as goal

pub returns-then-began : goal.returns-then-began
returns-then-began g c =
    then_either c.in_ok-began.began c.in_ok-went.went c.args.space.now c.begin_all.new.space c.go_together.new.space c.if-began.true c.in_ok-began.ensures c.in_ok-went.ensures

pub returns-else-began : goal.returns-else-began
returns-else-began g c =
    then_second c.in_ok-began.began c.in_ok-went.went c.args.space.now c.begin_all.new.space c.go_together.new.space c.if-began.false c.in_ok-began.ensures c.in_ok-went.ensures
