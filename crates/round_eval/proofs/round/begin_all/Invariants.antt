use Rattle.round_eval.specs.Later.{IsLater}
use Rattle.round_eval.proofs.round.begin_all.Given as goal

abbrev pub invariant-loop-runner : goal.invariant-loop-runner
invariant-loop-runner l = IsLater l.some l.fn.space l.space
