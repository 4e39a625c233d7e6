use Rattle.std.proofs.Common.{refl}
use Rattle.std.proofs.lemmas.Result.{on_ok_weaker, on_err_weaker}
use Rattle.put_get.proofs.Entries.{given_there, given_same, given_missing}
use Rattle.put_get.proofs.put.give_child.Goals as goal

pub returns-in-Some-clause-ok : goal.returns-in-Some-clause-ok
returns-in-Some-clause-ok c =
    let w = c.give_top.new.child in
    on_ok_weaker c.give_top.result (given_there c.args.x.now c.args.caller.now c.in-Some.child.now w c.args.children.now _ c.in-Some.ensures.value refl) c.give_top.ensures.ok

pub returns-in-Some-clause-err : goal.returns-in-Some-clause-err
returns-in-Some-clause-err c =
    let w = c.give_top.new.child in
    on_err_weaker c.give_top.result (given_same c.args.x.now.child c.in-Some.child.now w c.args.children.now _ c.in-Some.ensures.value refl) c.give_top.ensures.err

pub returns-in_ok-child-in-None-clause-ok : goal.returns-in_ok-child-in-None-clause-ok
returns-in_ok-child-in-None-clause-ok c =
    on_ok_weaker c.insert.result (λ put. given_missing c.args.x.now c.args.caller.now c.in_ok-child-in-None.child c.args.children.now _ c.in-None.ensures.value put c.in_ok-child-in-None.ensures) c.insert.ensures.ok
