use Rattle.std.proofs.Common.{◌∙◌, refl}
use Rattle.quantum_sched.proofs.Loops.{listed_all, listed_more, listed_none}
use Rattle.quantum_sched.proofs.commit.prepare_row.Goals as goal

pub loop-done-init : goal.loop-done-init
loop-done-init c = record { listed = listed_none _ _ c.args.first c.args.count c.args.children.now c.new-prepared.ensures.items; same = refl }

pub loop-done-preserved : goal.loop-done-preserved
loop-done-preserved c =
    let l = c.loop-done in
    record {
      listed = listed_more _ l.prepared.items c.prepare_at.new.prepared.items _ c.args.first c.args.count l.done c.args.children.now l.children c.loop-done-test.true l.invariant.same c.in_ok-prepare_at.ensures.ok l.invariant.listed;
      same = c.in_ok-prepare_at.ensures.same ∙ l.invariant.same;
    }

pub returns-clause-value : goal.returns-clause-value
returns-clause-value c =
    let l = c.loop-done in
    listed_all _ l.prepared.items _ c.args.first c.args.count l.done c.args.children.now c.loop-done-test.false l.invariant.listed
