use Rattle.merge3.specs.Bytes.{NoneInConflict}
use Rattle.merge3.proofs.first_conflict_from.Given as goal

abbrev pub invariant-loop-k : goal.invariant-loop-k
invariant-loop-k l = NoneInConflict l.agree l.snapshot l.child l.parent l.k
