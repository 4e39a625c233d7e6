use Rattle.std.proofs.Common.{◌≡◌, ◌++◌}
use Rattle.memory_files.specs.Taken.{taken_run}
use Rattle.memory_files.proofs.sharing.push_run.Given as goal

abbrev pub invariant-loop-page : goal.invariant-loop-page
invariant-loop-page l = l.pages.items ≡ l.fn.pages.items ++ taken_run l.slot l.from l.page
