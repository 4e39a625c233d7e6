use Rattle.std.proofs.Common.{refl}
use Rattle.std.proofs.lemmas.Result.{on_ok_weaker, on_err_weaker}
use Rattle.put_get.proofs.Entries.{given_same}
use Rattle.put_get.proofs.Trees.{below_there, below_missing}
use Rattle.put_get.proofs.tree.place_in_child.Goals as goal

pub returns-in-Some-clause-ok : goal.returns-in-Some-clause-ok
returns-in-Some-clause-ok c =
    let w = c.place_below.new.child in
    on_ok_weaker c.place_below.result
    (below_there c.args.child c.args.to c.args.copy c.args.caller.now c.in-Some.there.now w c.args.children.now _ c.in-Some.ensures.value refl) c.place_below.ensures.ok

pub returns-in-Some-clause-err : goal.returns-in-Some-clause-err
returns-in-Some-clause-err c =
    let w = c.place_below.new.child in
    on_err_weaker c.place_below.result (given_same c.args.child c.in-Some.there.now w c.args.children.now _ c.in-Some.ensures.value refl) c.place_below.ensures.err

pub returns-in_ok-made-in-None-clause-ok : goal.returns-in_ok-made-in-None-clause-ok
returns-in_ok-made-in-None-clause-ok c =
    on_ok_weaker c.insert.result
    (λ put. below_missing c.args.child c.args.to c.args.copy c.args.caller.now c.in_ok-made-in-None.made c.args.children.now _ c.in-None.ensures.value put c.in_ok-made-in-None.ensures) c.insert.ensures.ok
