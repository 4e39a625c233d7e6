use Rattle.std.proofs.Common.{ap, ◌∙◌}
use Rattle.call_model.specs.declared.Call.TheVariants.{Wait}
use Rattle.space_model.specs.Call.{edit, take_away}
use Rattle.space_model.specs.Caller.{with_action}
use Rattle.space_model.proofs.Callers.{met_sound}
use Rattle.user_runtime.proofs.Meetings.{wait_met}
use Rattle.user_runtime.proofs.Waits.{waited_pays}
use Rattle.user_runtime.proofs.waiting.wait.Goals as goal

pub pay_and_succeed-requires : goal.pay_and_succeed-requires
pay_and_succeed-requires c = waited_pays _ c.space.inside.top c.wait_number.new.caller c.args.space.now _ c.space.view_is c.requires.may_pay c.in_ok-wait_number.ensures.ok

pub returns-clause-ok : goal.returns-clause-ok
unfolding with_action
returns-clause-ok c =
    wait_met c.args.child c.args.space.now c.space.inside.top c.wait_number.new.caller c.pay_and_succeed.new.self _ _ c.space.view_is c.requires.may_pay.fuel c.in_ok-wait_number.ensures.ok
    (c.take_away.ensures ∙ ap (edit (take_away c.args.child)) c.in_ok-wait_number.ensures.same) c.pay_and_succeed.ensures

pub returns-clause-sound : goal.returns-clause-sound
returns-clause-sound c = met_sound c.args.depth (Wait c.args.child) c.args.space.now _ c.requires (returns-clause-ok c)
