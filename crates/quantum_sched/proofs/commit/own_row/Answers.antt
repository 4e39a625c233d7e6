use Rattle.std.proofs.Common.{◌∙◌, refl}
use Rattle.space_mem.proofs.Dirty.{marks_refl, marks_then}
use Rattle.quantum_sched.proofs.Owned.{row_all, row_more, row_none}
use Rattle.quantum_sched.proofs.commit.own_row.Goals as goal

pub loop-done-init : goal.loop-done-init
loop-done-init c = record { same = refl; owned = row_none c.args.caller.now c.args.first c.args.children.now; marks = marks_refl c.args.caller.now }

pub loop-done-preserved : goal.loop-done-preserved
loop-done-preserved c =
    let l = c.loop-done in
    let own = c.in_ok-own_at.ensures in
    record {
      same = own.same ∙ l.invariant.same;
      owned = row_more l.caller c.own_at.new.caller c.args.first l.done c.args.children.now own.stays l.invariant.owned own.owned;
      marks = marks_then c.args.caller.now l.caller c.own_at.new.caller l.invariant.marks own.marks;
    }

pub returns-clause-owned : goal.returns-clause-owned
returns-clause-owned c = row_all c.loop-done.caller c.args.first c.args.count c.loop-done.done c.args.children.now c.loop-done-test.false c.loop-done.invariant.owned
