use Rattle.std.specs.List.{AllZip}
use Rattle.round_eval.specs.Begun.{IsFor}
use Rattle.round_eval.proofs.starting.begin_each.Given as goal

abbrev pub invariant-loop-job : goal.invariant-loop-job
invariant-loop-job g l = AllZip IsFor l.yielded l.begun.items
