use Rattle.std.proofs.Common.{◌∙◌, sym, arith}
use Rattle.memory_model.specs.declared.Width.TheVariants.{Four}
use Rattle.space_mem.proofs.Tables.{number-memory_of}
use Rattle.space_mem.proofs.table.PageTable.word.Goals as goal

pub returns : goal.returns
returns c = c.number.ensures ∙ sym (number-memory_of c.args.self.now.pages c.args.at Four (omega arith) c.requires)
