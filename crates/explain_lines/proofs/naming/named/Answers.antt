use Rattle.std.proofs.Common.{[], rules}
use Rattle.std.specs.Option.{option_copied}
use Rattle.explain_lines.proofs.Words.{text_begins}
use Rattle.explain_lines.proofs.naming.named.Goals as goal

pub loop-rest-init : goal.loop-rest-init
loop-rest-init c = text_begins c.args.symbols.now c.args.text.now c.cut.result.0.now (option_copied c.cut.result.1) [] c.push_line.new.out.items c.cut.ensures.pieces (search rules)
