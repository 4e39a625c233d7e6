use Rattle.std.specs.Prelude.{option_map}
use Rattle.explain_core.specs.Watch.{noted_of}
use Rattle.explain_why.proofs.Origins.{left_in_copy}
use Rattle.explain_why.proofs.origin.left_by.Goals as goal

pub returns-clause-left : goal.returns-clause-left
returns-clause-left c =
    left_in_copy c.args.root.now c.in_ok-tree.tree c.args.sought.now.path.items c.args.sought.now.to c.args.sought.now.watched c.args.sought.now.value (option_map noted_of c.in_ok-change.change) (option_map noted_of c.where_left.result)
    c.in_ok-tree.ensures.equal c.in_ok-change.ensures c.where_left.ensures
