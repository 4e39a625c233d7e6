use Rattle.std.specs.Option.{option_copied}
use Rattle.explain_lines.proofs.Words.{line_begins}
use Rattle.explain_lines.proofs.naming.push_line.Goals as goal

pub loop-rest-init : goal.loop-rest-init
loop-rest-init c = line_begins c.args.symbols.now c.args.line.now c.cut.result.0.now (option_copied c.cut.result.1) c.args.out.now.items c.push_word.new.out.items c.cut.ensures.pieces c.in_ok-push_word.ensures
