use Rattle.put_get.proofs.Trees.{put_tree_met}
use Rattle.put_get.proofs.tree.put_tree.Goals as goal

pub returns-clause-ok : goal.returns-clause-ok
returns-clause-ok c =
    put_tree_met c.args.child c.args.from c.args.to c.in_ok-copy.copy c.args.space.now c.space.inside.top c.pay_and_succeed.new.self _ _ _ c.space.view_is c.requires.fuel c.in_ok-copy.ensures.equal c.copy_child.ensures.same
    c.in_ok-place_in_child.ensures.ok c.pay_and_succeed.ensures
