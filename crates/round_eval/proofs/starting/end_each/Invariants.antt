use Rattle.std.specs.Prelude.{List}
use Rattle.std.specs.List.{AllZip}
use Rattle.round_eval.specs.Jobs.{WentOn}
use Rattle.round_eval.specs.Begun.{IsFor}
use Rattle.round_eval.specs.declared.job.Job.{Job}
use Rattle.round_eval.proofs.starting.end_each.Given as goal

abbrev pub invariant-loop-one : goal.invariant-loop-one
invariant-loop-one g l = (js : List Job) → AllZip IsFor js l.yielded → AllZip WentOn js l.dones.items
