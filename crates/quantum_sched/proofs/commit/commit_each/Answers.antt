use Rattle.space_mem.proofs.Dirty.{marks_refl, marks_then}
use Rattle.quantum_sched.proofs.Loops.{committed_all, committed_more, committed_none}
use Rattle.quantum_sched.proofs.Owned.{row_still}
use Rattle.quantum_sched.proofs.commit.commit_each.Goals as goal

pub loop-done-init : goal.loop-done-init
loop-done-init c = record { committed = committed_none c.args.caller.now.memory c.args.first c.args.count c.args.children.now; owned = c.requires.owned; marks = marks_refl c.args.caller.now }

pub commit_at-requires : goal.commit_at-requires
commit_at-requires c = c.loop-done.invariant.owned c.loop-done.done c.loop-done-test.true

pub loop-done-preserved : goal.loop-done-preserved
loop-done-preserved c =
    let l = c.loop-done in
    let done = c.in_ok-commit_at.ensures in
    record {
      committed = committed_more l.caller.memory c.commit_at.new.caller.memory _ c.args.first c.args.count l.done c.args.children.now c.loop-done-test.true done.ok l.invariant.committed;
      owned = row_still l.caller c.commit_at.new.caller c.args.first c.args.count c.args.children.now done.stays l.invariant.owned;
      marks = marks_then c.args.caller.now l.caller c.commit_at.new.caller l.invariant.marks done.marks;
    }

pub returns-clause-ok : goal.returns-clause-ok
returns-clause-ok c = committed_all c.loop-done.caller.memory _ c.args.first c.args.count c.loop-done.done c.args.children.now c.loop-done-test.false c.loop-done.invariant.committed
