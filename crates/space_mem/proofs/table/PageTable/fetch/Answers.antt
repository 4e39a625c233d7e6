use Rattle.std.proofs.Common.{◌∙◌, arith}
use Rattle.space_mem.proofs.Tables.{fetch_of}
use Rattle.space_mem.proofs.table.PageTable.fetch.Goals as goal

pub returns : goal.returns
returns c = c.fetch.ensures ∙ fetch_of c.args.self.now.pages c.args.at (omega arith) c.requires
