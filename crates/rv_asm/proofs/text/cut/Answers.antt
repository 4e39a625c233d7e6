use Rattle.std.proofs.Common.{sym, ◌∙◌, length, arith}
use Rattle.rv_asm.proofs.Cut.{NoneBelow, before-take, from-drop, before-all, from-all, take-length, drop-length}
use Rattle.rv_asm.proofs.text.cut.Goals as goal

pub returns-then-contains-clause-before : goal.returns-then-contains-clause-before
returns-then-contains-clause-before c = c.split_at.ensures.front ∙ sym (before-take c.args.class c.args.text.now c.loop-at.at c.loop-at.invariant c.loop-at-test.true (sym c.contains.ensures ∙ c.if-contains.true))

pub returns-then-contains-clause-from : goal.returns-then-contains-clause-from
returns-then-contains-clause-from c = c.split_at.ensures.back ∙ sym (from-drop c.args.class c.args.text.now c.loop-at.at c.loop-at.invariant c.loop-at-test.true (sym c.contains.ensures ∙ c.if-contains.true))

pub returns-clause-before : goal.returns-clause-before
returns-clause-before c =
    let none : NoneBelow c.args.class c.args.text.now (length c.args.text.now) = λ k lt. c.loop-at.invariant k (omega (arith, lt)) in
    c.split_at-2.ensures.front ∙ (take-length c.args.text.now ∙ sym (before-all c.args.class c.args.text.now none))

pub returns-clause-from : goal.returns-clause-from
returns-clause-from c =
    let none : NoneBelow c.args.class c.args.text.now (length c.args.text.now) = λ k lt. c.loop-at.invariant k (omega (arith, lt)) in
    c.split_at-2.ensures.back ∙ (drop-length c.args.text.now ∙ sym (from-all c.args.class c.args.text.now none))
