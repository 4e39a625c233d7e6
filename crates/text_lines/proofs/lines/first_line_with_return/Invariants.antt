use Rattle.text_lines.proofs.FirstLine.{NoneBelow}
use Rattle.text_lines.proofs.lines.first_line_with_return.Given as goal

abbrev pub invariant-loop-at : goal.invariant-loop-at
invariant-loop-at l = NoneBelow l.text l.at
