use Rattle.std.proofs.Common.{arith, refl}
use Rattle.space_mem.proofs.Updates.{next_page_is, none_used}
use Rattle.space_mem.proofs.table.PageTable.next_page.Goals as goal

pub returns-in-Some-clause-some : goal.returns-in-Some-clause-some
returns-in-Some-clause-some c = let h = c.in-Some.ensures in next_page_is c.args.self.now c.args.n c.in-Some.page c.requires h.from h.within h.used h.least

pub returns-in-None-clause-none : goal.returns-in-None-clause-none
returns-in-None-clause-none c none = none_used c.args.self.now c.args.n 1048576 (omega arith) (c.in-None.ensures.none refl)
