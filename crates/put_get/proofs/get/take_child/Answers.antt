use Rattle.std.proofs.Common.{refl, subst, sym, ◌∙◌, IfErr}
use Rattle.std.proofs.lemmas.Result.{on_ok_weaker}
use Rattle.space_model.specs.Space.{top_of}
use Rattle.put_get.specs.Meetings.{MayStop}
use Rattle.put_get.proofs.Meetings.{taken_there, taken_missing, conflict_there, conflict_missing}
use Rattle.put_get.proofs.Entries.{given_same}
use Rattle.put_get.proofs.get.take_child.Goals as goal

pub returns-in-Some-clause-ok : goal.returns-in-Some-clause-ok
returns-in-Some-clause-ok c =
    on_ok_weaker c.take_space.result (taken_there c.args.x.now c.args.caller.now c.take_space.new.caller (top_of c.in-Some.child.now) c.in-Some.child.now c.args.children.now c.in-Some.ensures.value refl) c.take_space.ensures.ok

pub returns-in-Some-clause-sure : goal.returns-in-Some-clause-sure
returns-in-Some-clause-sure c =
    let same = conflict_there c.args.x.now c.args.caller.now (top_of c.in-Some.child.now) c.in-Some.child.now c.args.children.now c.in-Some.ensures.value refl in
    on_ok_weaker c.take_space.result (λ h. sym same ∙ h) c.take_space.ensures.sure

pub returns-in-Some-clause-conflict : goal.returns-in-Some-clause-conflict
returns-in-Some-clause-conflict c =
    let same = conflict_there c.args.x.now c.args.caller.now (top_of c.in-Some.child.now) c.in-Some.child.now c.args.children.now c.in-Some.ensures.value refl in
    subst (λ o. IfErr c.take_space.result (MayStop o)) same c.take_space.ensures.conflict

pub returns-in-None-clause-ok : goal.returns-in-None-clause-ok
returns-in-None-clause-ok c =
    on_ok_weaker c.take_fresh.result (taken_missing c.args.x.now c.args.caller.now c.take_fresh.new.caller c.args.children.now c.in-None.ensures.value) c.take_fresh.ensures.ok

pub returns-in-None-clause-sure : goal.returns-in-None-clause-sure
returns-in-None-clause-sure c =
    let same = conflict_missing c.args.x.now c.args.caller.now c.args.children.now c.in-None.ensures.value in
    on_ok_weaker c.take_fresh.result (λ h. sym same ∙ h) c.take_fresh.ensures.sure

pub returns-in-None-clause-conflict : goal.returns-in-None-clause-conflict
returns-in-None-clause-conflict c =
    let same = conflict_missing c.args.x.now c.args.caller.now c.args.children.now c.in-None.ensures.value in
    subst (λ o. IfErr c.take_fresh.result (MayStop o)) same c.take_fresh.ensures.conflict

pub returns-in-Some-clause-same : goal.returns-in-Some-clause-same
returns-in-Some-clause-same c =
    given_same c.args.x.now.child c.in-Some.child.now c.take_space.new.child c.args.children.now _ c.in-Some.ensures.value refl c.take_space.ensures.same
