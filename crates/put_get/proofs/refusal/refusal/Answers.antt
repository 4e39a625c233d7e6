use Rattle.std.proofs.Common.{◌-◌, ◌∙◌}
use Rattle.put_get.proofs.Tests.{put_test, put_tree_test}
use Rattle.put_get.proofs.refusal.refusal.Goals as goal

pub returns-in-Put : goal.returns-in-Put
returns-in-Put c = c.unreadable_block.ensures ∙ put_test (8 - c.args.depth) c.in-Put.x c.args.call c.space.inside.top _ c.args.space.now c.space.view_is c.in-Put.ensures.value

pub returns-in-PutTree : goal.returns-in-PutTree
returns-in-PutTree c =
    c.tree_refusal.ensures ∙ put_tree_test (8 - c.args.depth) c.in-PutTree.child c.in-PutTree.from c.in-PutTree.to c.args.call c.space.inside.top _ c.args.space.now c.space.view_is c.in-PutTree.ensures.value
