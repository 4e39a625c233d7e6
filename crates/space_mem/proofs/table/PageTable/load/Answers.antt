use Rattle.std.proofs.Common.{◌∙◌, arith}
use Rattle.space_mem.proofs.Tables.{load_of}
use Rattle.space_mem.proofs.table.PageTable.load.Goals as goal

pub returns : goal.returns
returns c = c.load.ensures ∙ load_of c.args.self.now.pages c.args.at c.args.width (omega arith) c.requires
