use Rattle.std.proofs.Common.{arith}
use Rattle.std.proofs.lemmas.Bool.{eq-eqb}
use Rattle.image_symbols.proofs.Zeros.{all_of_it, before_this}
use Rattle.image_symbols.proofs.entries.before_zero.Goals as goal

pub returns-then-byte-eq0 : goal.returns-then-byte-eq0
returns-then-byte-eq0 c = before_this c.args.text.now c.loop-at.at c.loop-at.invariant c.loop-at-test.true (eq-eqb _ _ c.if-byte-eq0.true)

pub returns : goal.returns
returns c = all_of_it c.args.text.now (λ k lt. c.loop-at.invariant k (omega arith))
