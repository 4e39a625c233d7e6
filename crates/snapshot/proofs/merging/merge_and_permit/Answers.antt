use Rattle.snapshot.proofs.Joined.{joined_permitted}
use Rattle.snapshot.proofs.merging.merge_and_permit.Goals as goal

pub returns-clause-ok : goal.returns-clause-ok
returns-clause-ok c =
    joined_permitted c.prepare.new.parent c.args.child.now c.args.snapshot.now.memory c.args.parent.now.memory c.prepare.new.child.memory c.freeze_each.new.memory.memory c.take_over_and_permit.new.self.memory c.merge_each.new.parent.memory
    c.args.range.first c.args.range.count c.args.perm c.in_ok-found.found c.deref-2.result.now c.deref-3.result.now c.in_ok-found.ensures.sorted c.prepare.ensures.same c.prepare.ensures.same_child c.freeze_each.ensures.same c.deref-2.ensures.value c.deref-3.ensures.value
    c.in_ok-take_over_and_permit.ensures.ok c.in_ok-merge_each.ensures.ok
