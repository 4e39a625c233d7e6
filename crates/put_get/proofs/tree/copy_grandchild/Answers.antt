use Rattle.std.proofs.Common.{refl}
use Rattle.put_get.proofs.Entries.{given_same}
use Rattle.put_get.proofs.Trees.{copied_below, none_below}
use Rattle.put_get.proofs.tree.copy_grandchild.Goals as goal

pub returns-in-Some-clause-ok : goal.returns-in-Some-clause-ok
returns-in-Some-clause-ok c = copied_below c.copy_below.result c.args.number c.args.from c.in-Some.child.now c.args.children.now c.in-Some.ensures.value c.copy_below.ensures.ok

pub returns-in-Some-clause-same : goal.returns-in-Some-clause-same
returns-in-Some-clause-same c =
    let w = c.copy_below.new.space in
    given_same c.args.number c.in-Some.child.now w c.args.children.now _ c.in-Some.ensures.value refl c.copy_below.ensures.same

pub returns-in-None-clause-ok : goal.returns-in-None-clause-ok
returns-in-None-clause-ok c = none_below c.args.number c.args.from c.args.children.now c.in-None.ensures.value
