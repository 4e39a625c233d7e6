use Rattle.std.proofs.Common.{arith}
use Rattle.page_marks.specs.Lists.{no_page}
use Rattle.page_marks.proofs.Lists.{has_gone}
use Rattle.page_marks.proofs.few.FewPages.remove.Goals as goal

pub returns : goal.returns
returns c p below = has_gone c.args.self.now.places c.loop-i.self.places c.args.page no_page c.loop-i.invariant.sized (λ i low. c.loop-i.invariant.gone i (omega (arith, low, c.loop-i.invariant.size, c.loop-i-test.false))) p (λ is. omega (arith, below, is))
