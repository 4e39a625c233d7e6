use Rattle.std.proofs.Common.{arith, refl}
use Rattle.space_mem.proofs.RangeEdits.{no_zeros}
use Rattle.space_mem.proofs.Kept.{table_kept}
use Rattle.space_mem.proofs.table.PageTable.zero.Goals as goal

pub returns-then-first-end-clause-ok : goal.returns-then-first-end-clause-ok
returns-then-first-end-clause-ok c = no_zeros c.args.self.now.pages c.args.first c.args.end (omega arith)

pub returns-then-first-end-clause-outside : goal.returns-then-first-end-clause-outside
returns-then-first-end-clause-outside c = table_kept c.args.self.now c.args.self.now c.args.first c.args.end refl
