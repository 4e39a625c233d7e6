use Rattle.std.proofs.Common.{arith}
use Rattle.page_marks.proofs.Lists.{has_none}
use Rattle.page_marks.proofs.few.FewPages.place_of.Goals as goal

pub returns-clause-none : goal.returns-clause-none
returns-clause-none c none = has_none c.args.self.now.places c.args.number (λ j below is. c.loop-i.invariant.none j (omega (arith, below, c.loop-i.invariant.sized, c.loop-i-test.false)) is)
