use Rattle.std.proofs.Common.{refl}
use Rattle.space_mem.proofs.Copies.{copied_none}
use Rattle.space_mem.proofs.Kept.{table_kept}
use Rattle.space_mem.proofs.table.PageTable.copy.Goals as goal

pub returns-then-first-end-clause-ok : goal.returns-then-first-end-clause-ok
returns-then-first-end-clause-ok c = copied_none c.args.self.now.pages c.args.source.now.pages c.args.from c.args.first c.args.end c.if-first-end.true

pub returns-then-first-end-clause-outside : goal.returns-then-first-end-clause-outside
returns-then-first-end-clause-outside c = table_kept c.args.self.now c.args.self.now c.args.first c.args.end refl
