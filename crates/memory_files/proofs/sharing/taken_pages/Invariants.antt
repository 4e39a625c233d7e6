use Rattle.std.proofs.Common.{◌≡◌}
use Rattle.memory_files.specs.Taken.{taken_before}
use Rattle.memory_files.proofs.sharing.taken_pages.Given as goal

abbrev pub invariant-loop-slot : goal.invariant-loop-slot
invariant-loop-slot l = l.pages.items ≡ taken_before l.plan.whole l.plan.from l.slot
