use Rattle.std.proofs.Common.{ap, subst, sym, ◌∙◌}
use Rattle.space_model.specs.Space.{space}
use Rattle.put_get.specs.Meetings.{MayStop}
use Rattle.put_get.proofs.Meetings.{taken_pays, get_met, conflict_met}
use Rattle.put_get.proofs.get.get.Goals as goal

pub pay_and_succeed-requires : goal.pay_and_succeed-requires
pay_and_succeed-requires c = taken_pays c.args.x.now _ c.space.inside.top c.take_child.new.caller c.args.space.now _ (c.space.view_is ∙ c.share_child.ensures.same) c.requires.pays c.in-Ok.ensures.ok

pub returns-in-Ok-clause-ok : goal.returns-in-Ok-clause-ok
returns-in-Ok-clause-ok c =
    ap (space c.pay_and_succeed.new.self) c.take_child.ensures.same ∙ get_met c.args.x.now c.args.space.now c.space.inside.top c.take_child.new.caller c.pay_and_succeed.new.self _ (c.space.view_is ∙ c.share_child.ensures.same) c.requires.pays.fuel c.in-Ok.ensures.ok c.pay_and_succeed.ensures

pub returns-in-Ok-clause-sure : goal.returns-in-Ok-clause-sure
returns-in-Ok-clause-sure c = sym (conflict_met c.args.x.now c.args.space.now c.space.inside.top _ (c.space.view_is ∙ c.share_child.ensures.same) c.requires.pays.fuel) ∙ c.in-Ok.ensures.sure

pub returns-in-Err-clause-conflict : goal.returns-in-Err-clause-conflict
returns-in-Err-clause-conflict c = subst (λ o. MayStop o c.in-Err.error) (conflict_met c.args.x.now c.args.space.now c.space.inside.top _ (c.space.view_is ∙ c.share_child.ensures.same) c.requires.pays.fuel) c.in-Err.ensures.conflict
