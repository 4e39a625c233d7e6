use Rattle.std.proofs.Common.{ap, subst}
use Rattle.memory_model.specs.Ranges.{NoneUsed}
use Rattle.space_mem.proofs.memory.Mem.next_page.Goals as goal

pub returns-clause-none : goal.returns-clause-none
returns-clause-none c none = subst (λ m. NoneUsed m c.args.n 1048576) (ap (λ h. h.memory) c.self.view_is) (c.next_page.ensures.none none)
