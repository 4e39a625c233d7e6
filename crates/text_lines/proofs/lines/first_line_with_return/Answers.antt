use Rattle.std.proofs.Common.{arith, add-one}
use Rattle.std.proofs.lemmas.Bool.{eq-eqb}
use Rattle.std.proofs.lemmas.List.{take_rest}
use Rattle.text_lines.specs.Lines.{lines_with_returns}
use Rattle.text_lines.proofs.FirstLine.{first_line, last_line}
use Rattle.text_lines.proofs.lines.first_line_with_return.Goals as goal

pub returns-then-byte-eq10-clause-lines : goal.returns-then-byte-eq10-clause-lines
returns-then-byte-eq10-clause-lines c = rw (take_rest, add-one) (first_line c.args.text.now c.loop-at.at c.loop-at.invariant c.loop-at-test.true (eq-eqb _ _ c.if-byte-eq10.true))

pub returns-clause-lines : goal.returns-clause-lines
unfolding lines_with_returns
returns-clause-lines c = last_line c.args.text.now (λ k lt. c.loop-at.invariant k (omega arith)) c.requires
