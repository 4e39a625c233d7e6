use Rattle.round_eval.proofs.Later.{went_some}
use Rattle.round_eval.proofs.round.try_out.Goals as goal

pub returns : goal.returns
returns c = went_some c.args.space.now c.go_on.new.space c.in_ok-ran.field-0 c.in-Some.field-0 c.in-Some.is c.in_ok-ran.ensures.some
