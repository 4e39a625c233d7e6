use Rattle.space_mem.proofs.Tables.{memory_same}
use Rattle.space_mem.proofs.table.PageTable.freeze_range.Goals as goal

pub returns-clause-same : goal.returns-clause-same
returns-clause-same c = memory_same c.args.self.now.pages c.freeze_range.new.self c.freeze_range.ensures.same.permission c.freeze_range.ensures.same.byte
