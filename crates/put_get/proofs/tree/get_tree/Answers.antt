use Rattle.put_get.proofs.Trees.{get_tree_met}
use Rattle.put_get.proofs.tree.get_tree.Goals as goal

pub returns-clause-ok : goal.returns-clause-ok
returns-clause-ok c =
    get_tree_met c.args.child c.args.from c.args.to c.in_ok-copy.copy c.args.space.now c.space.inside.top c.pay_and_succeed.new.self _ _ _ c.space.view_is c.in_ok-copy.ensures.ok c.copy_grandchild.ensures.same
    c.in_ok-place_copy.ensures.ok c.pay_and_succeed.ensures
