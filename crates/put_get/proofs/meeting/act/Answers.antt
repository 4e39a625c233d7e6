use Rattle.put_get.proofs.Meetings.{put_free, put_tree_free, get_tree_free}
use Rattle.put_get.proofs.meeting.act.Goals as goal

pub returns-in_ok-put-in-Put-clause-sure : goal.returns-in_ok-put-in-Put-clause-sure
returns-in_ok-put-in-Put-clause-sure c = put_free c.in-Put.x c.args.call c.args.space.now c.in-Put.ensures.value

pub returns-in_ok-put_tree-in-PutTree-clause-sure : goal.returns-in_ok-put_tree-in-PutTree-clause-sure
returns-in_ok-put_tree-in-PutTree-clause-sure c = put_tree_free c.in-PutTree.child c.in-PutTree.from c.in-PutTree.to c.args.call c.args.space.now c.in-PutTree.ensures.value

pub returns-in_ok-get_tree-in-GetTree-clause-sure : goal.returns-in_ok-get_tree-in-GetTree-clause-sure
returns-in_ok-get_tree-in-GetTree-clause-sure c = get_tree_free c.in-GetTree.child c.in-GetTree.from c.in-GetTree.to c.args.call c.args.space.now c.in-GetTree.ensures.value
