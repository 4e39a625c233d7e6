use Rattle.std.proofs.Common.{◌∙◌, arith}
use Rattle.page_marks.proofs.Lists.{has_set, or_cond}
use Rattle.page_marks.proofs.few.FewPages.add.Goals as goal

pub returns-in-Some : goal.returns-in-Some
returns-in-Some c p below = let h = c.in-Some.ensures in
    has_set c.args.self.now.places c.in-Some.i c.args.page p h.within
    (λ is. omega (arith, below, is, h.here)) ∙ or_cond c.args.page p _
