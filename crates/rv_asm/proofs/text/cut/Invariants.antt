use Rattle.rv_asm.proofs.Cut.{NoneBelow}
use Rattle.rv_asm.proofs.text.cut.Given as goal

abbrev pub invariant-loop-at : goal.invariant-loop-at
invariant-loop-at l = NoneBelow l.class l.text l.at
