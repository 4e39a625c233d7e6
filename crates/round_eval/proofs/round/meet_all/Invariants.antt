use Rattle.round_eval.specs.Later.{IsLater}
use Rattle.round_eval.proofs.round.meet_all.Given as goal

abbrev pub invariant-loop-path : goal.invariant-loop-path
invariant-loop-path l = IsLater l.some l.fn.space l.space
