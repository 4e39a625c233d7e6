use Rattle.std.proofs.Common.{◌+◌, ◌-◌, ap, ◌∙◌, arith}
use Rattle.space_model.specs.Quanta.{count_waiting}
use Rattle.quantum_model.specs.Rows.{threads_in}
use Rattle.quantum_sched.proofs.Loops.{counted_all, counted_more, counted_none}
use Rattle.quantum_sched.proofs.threads.count_waiting.Goals as goal

pub loop-done-init : goal.loop-done-init
loop-done-init c = record { counted = counted_none c.args.first c.args.count c.args.children.now; few = omega arith }

pub loop-done-preserved : goal.loop-done-preserved
loop-done-preserved c =
    let l = c.loop-done in
    let at = c.waiting_at-waiting.ensures in
    record {
      counted = ap (λ n. l.waiting + n + count_waiting (threads_in (c.args.first + (l.done + 1)) (c.args.count - (l.done + 1)) c.args.children.now)) at.value
          ∙ counted_more l.waiting _ c.args.first c.args.count l.done c.args.children.now c.loop-done-test.true l.invariant.counted;
      few = omega (arith, at.few, l.invariant.few);
    }

pub returns : goal.returns
returns c = counted_all c.loop-done.waiting _ c.args.first c.args.count c.loop-done.done c.args.children.now c.loop-done-test.false c.loop-done.invariant.counted
