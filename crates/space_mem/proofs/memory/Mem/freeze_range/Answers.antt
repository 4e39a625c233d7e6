use Rattle.std.proofs.Common.{arith, ◌+◌, subst}
use Rattle.space_mem.specs.Held.{Held, Owns}
use Rattle.space_mem.proofs.Freezes.{none_owned_on, owns_less}
use Rattle.space_mem.proofs.memory.Mem.freeze_range.Goals as goal

pub returns-clause-none : goal.returns-clause-none
returns-clause-none c = none_owned_on c.freeze_range.result c.freeze_range.new.self c.args.range.first (c.args.range.first + c.args.range.count) (omega (arith, c.args.range.within)) c.freeze_range.ensures.none

pub returns-clause-less : goal.returns-clause-less
returns-clause-less c page owns = subst (λ (h : Held). Owns h page) c.self.view_is (owns_less c.self.inside.table c.freeze_range.new.self c.freeze_range.ensures.less page owns)
