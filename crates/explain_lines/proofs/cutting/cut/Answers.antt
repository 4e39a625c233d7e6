use Rattle.std.proofs.Common.{arith}
use Rattle.std.proofs.lemmas.Bool.{eq-eqb}
use Rattle.std.proofs.lemmas.List.{take_rest}
use Rattle.explain_lines.proofs.Cuts.{first_after, first_before, first_pieces, none_after, none_before, one_piece}
use Rattle.explain_lines.proofs.cutting.cut.Goals as goal

pub returns-then-byte-separator-clause-before : goal.returns-then-byte-separator-clause-before
returns-then-byte-separator-clause-before c = first_before c.args.separator c.args.text.now c.loop-at.at c.loop-at.invariant c.loop-at-test.true (eq-eqb _ _ c.if-byte-separator.true)

pub returns-then-byte-separator-clause-after : goal.returns-then-byte-separator-clause-after
returns-then-byte-separator-clause-after c = rw take_rest (first_after c.args.separator c.args.text.now c.loop-at.at c.loop-at.invariant c.loop-at-test.true (eq-eqb _ _ c.if-byte-separator.true))

pub returns-then-byte-separator-clause-pieces : goal.returns-then-byte-separator-clause-pieces
returns-then-byte-separator-clause-pieces c = rw take_rest (first_pieces c.args.separator c.args.text.now c.loop-at.at c.loop-at.invariant c.loop-at-test.true (eq-eqb _ _ c.if-byte-separator.true))

pub returns-clause-before : goal.returns-clause-before
returns-clause-before c = none_before c.args.separator c.args.text.now (λ k lt. c.loop-at.invariant k (omega arith))

pub returns-clause-after : goal.returns-clause-after
returns-clause-after c = none_after c.args.separator c.args.text.now (λ k lt. c.loop-at.invariant k (omega arith))

pub returns-clause-pieces : goal.returns-clause-pieces
returns-clause-pieces c = one_piece c.args.separator c.args.text.now (λ k lt. c.loop-at.invariant k (omega arith))
