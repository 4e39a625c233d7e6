use Rattle.space_mem.proofs.Updates.{bounded}
use Rattle.space_mem.proofs.table.PageTable.bounds.Goals as goal

pub returns : goal.returns
returns c = bounded c.args.self.now c.requires
