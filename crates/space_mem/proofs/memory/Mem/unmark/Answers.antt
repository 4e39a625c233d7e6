use Rattle.std.proofs.Common.{ap, sym, ◌∙◌, subst}
use Rattle.memory_model.specs.Sparse.{value_at}
use Rattle.space_mem.specs.Held.{Held, Owns}
use Rattle.space_mem.proofs.Freezes.{owns_less}
use Rattle.space_mem.proofs.memory.Mem.unmark.Goals as goal

pub returns-in_err-freeze_range-clause-less : goal.returns-in_err-freeze_range-clause-less
returns-in_err-freeze_range-clause-less c page owns = subst (λ (h : Held). Owns h page) c.self.view_is (owns_less c.self.inside.table c.freeze_range.new.self c.in_err-freeze_range.ensures.less page owns)

pub returns-clause-less : goal.returns-clause-less
returns-clause-less c page owns = subst (λ (h : Held). Owns h page) c.self.view_is (owns_less c.self.inside.table c.freeze_range.new.self c.in_ok-freeze_range.ensures.less page (ap (λ s. value_at s page) (sym c.unmark.ensures.owned) ∙ owns))
