use Rattle.std.proofs.lemmas.Result.{on_ok_weaker}
use Rattle.put_get.proofs.Trees.{copy_placed, child_removed}
use Rattle.put_get.proofs.tree.place_copy.Goals as goal

pub returns-in-Some-clause-ok : goal.returns-in-Some-clause-ok
returns-in-Some-clause-ok c = on_ok_weaker c.insert.result (copy_placed c.args.number c.in-Some.space c.args.copy c.args.children.now _ c.in-Some.is) c.insert.ensures.ok

pub returns-in-None-clause-ok : goal.returns-in-None-clause-ok
returns-in-None-clause-ok c = child_removed c.args.number c.args.copy c.args.children.now _ c.in-None.is c.remove.ensures
