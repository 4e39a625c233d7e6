use Rattle.std.proofs.Common.{◌∙◌, sym}
use Rattle.round_eval.proofs.Later.{one_met, none_met}
use Rattle.round_eval.proofs.round.meet_one.Goals as goal

pub returns-in_ok-met-in-Some : goal.returns-in_ok-met-in-Some
returns-in_ok-met-in-Some c =
    one_met c.args.path.items c.in-Some.call c.args.space.now c.meet.new.space (sym c.in-Some.is ∙ c.in_ok-call.ensures.call) c.in_ok-call.ensures.met

pub returns-in-None : goal.returns-in-None
returns-in-None c =
    none_met c.args.path.items c.args.space.now c.meet.new.space (sym c.in-None.is ∙ c.in_ok-call.ensures.call) c.in_ok-call.ensures.met
