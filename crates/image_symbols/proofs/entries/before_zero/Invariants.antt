use Rattle.image_symbols.proofs.Zeros.{NoneBelow}
use Rattle.image_symbols.proofs.entries.before_zero.Given as goal

abbrev pub invariant-loop-at : goal.invariant-loop-at
invariant-loop-at l = NoneBelow l.text l.at
