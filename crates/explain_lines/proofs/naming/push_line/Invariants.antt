use Rattle.std.proofs.Common.{◌≡◌, ◌+◌, ◌++◌, length}
use Rattle.std.specs.Option.{option_copied, option_map_or}
use Rattle.explain_lines.specs.Names.{named_line, named_words}
use Rattle.explain_lines.proofs.Words.{behind, pieces_of}
use Rattle.explain_lines.proofs.naming.push_line.Given as goal

abbrev pub invariant-loop-rest : goal.invariant-loop-rest
invariant-loop-rest l = l.out.items ++ behind 32 (named_words l.symbols l.before (pieces_of 32 (option_copied l.rest))) ≡ l.fn.out.items ++ named_line l.symbols l.line

abbrev pub decreases-loop-rest : goal.decreases-loop-rest
decreases-loop-rest l = option_map_or (λ text. length text.now + 1) l.rest 0
