use Rattle.snapshot.proofs.Joined.{joined}
use Rattle.snapshot.proofs.merging.merge.Goals as goal

pub returns-clause-ok : goal.returns-clause-ok
returns-clause-ok c =
    joined c.prepare.new.parent c.args.child.now c.args.snapshot.now.memory c.args.parent.now.memory c.prepare.new.child.memory c.freeze_each.new.memory.memory c.take_over.new.self.memory c.merge_each.new.parent.memory
    c.args.range.first c.args.range.count c.in_ok-found.found c.deref-2.result.now c.deref-3.result.now c.in_ok-found.ensures.sorted c.prepare.ensures.same c.prepare.ensures.same_child c.freeze_each.ensures.same c.deref-2.ensures.value c.deref-3.ensures.value
    c.in_ok-take_over.ensures.ok c.in_ok-merge_each.ensures.ok
