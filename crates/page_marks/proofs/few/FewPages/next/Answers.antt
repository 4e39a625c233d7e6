use Rattle.std.proofs.Common.{arith}
use Rattle.page_marks.proofs.Lists.{has_none}
use Rattle.page_marks.proofs.few.FewPages.next.Goals as goal

pub returns-then-least-eq-PAGES-clause-none : goal.returns-then-least-eq-PAGES-clause-none
returns-then-least-eq-PAGES-clause-none c none q low high = has_none c.args.self.now.places q (λ i below is.
    omega (arith, low, high, is, c.loop-i.invariant.least i (omega (arith, below, c.loop-i.invariant.sized, c.loop-i-test.false)) (omega (arith, low, is)), c.if-least-eq-PAGES.true))

pub returns-clause-least : goal.returns-clause-least
returns-clause-least c q low high = has_none c.args.self.now.places q (λ i below is.
    omega (arith, low, high, is, c.loop-i.invariant.least i (omega (arith, below, c.loop-i.invariant.sized, c.loop-i-test.false)) (omega (arith, low, is))))
