use Rattle.explain_lines.proofs.Cuts.{NoneBelow}
use Rattle.explain_lines.proofs.cutting.cut.Given as goal

abbrev pub invariant-loop-at : goal.invariant-loop-at
invariant-loop-at l = NoneBelow l.separator l.text l.at
