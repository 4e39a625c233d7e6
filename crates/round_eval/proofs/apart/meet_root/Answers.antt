use Rattle.std.proofs.Common.{◌∙◌, sym}
use Rattle.round_eval.proofs.Later.{one_met}
use Rattle.round_eval.proofs.RootFirst.{root_met}
use Rattle.round_eval.proofs.apart.meet_root.Goals as goal

pub returns-in_ok-met_below-in-Some-clause-ok : goal.returns-in_ok-met_below-in-Some-clause-ok
returns-in_ok-met_below-in-Some-clause-ok c = one_met _ c.in-Some.call c.args.space.now c.meet.new.space (sym c.in-Some.is ∙ c.in_ok-call.ensures.call) c.in_ok-call.ensures.met

pub returns-in_ok-met_below-in-Some-clause-console : goal.returns-in_ok-met_below-in-Some-clause-console
returns-in_ok-met_below-in-Some-clause-console c = root_met _ c.args.space.now c.meet.new.space c.new-root.ensures c.in_ok-call.ensures.met
