use Rattle.std.proofs.Common.{◌≡◌, ◌+◌, ◌++◌, length, map}
use Rattle.std.specs.Option.{option_copied, option_map_or}
use Rattle.explain_lines.specs.Names.{named, named_line}
use Rattle.explain_lines.proofs.Words.{behind, pieces_of}
use Rattle.explain_lines.proofs.naming.named.Given as goal

abbrev pub invariant-loop-rest : goal.invariant-loop-rest
invariant-loop-rest l = l.out.items ++ behind 10 (map (named_line l.symbols) (pieces_of 10 (option_copied l.rest))) ≡ named l.symbols l.text

abbrev pub decreases-loop-rest : goal.decreases-loop-rest
decreases-loop-rest l = option_map_or (λ text. length text.now + 1) l.rest 0
