use Rattle.std.proofs.Common.{◌≡◌}
use Rattle.memory_files.proofs.sharing.freeze_planned.Given as goal

abbrev pub invariant-loop-slot : goal.invariant-loop-slot
invariant-loop-slot l = record {
  same : l.child.memory ≡ l.fn.child.memory;
  dirty : l.child.dirty ≡ l.fn.child.dirty;
}
