use Rattle.std.proofs.Common.{◌≡◌}
use Rattle.snapshot.proofs.merging.freeze_each.Given as goal

abbrev pub invariant-loop-page : goal.invariant-loop-page
invariant-loop-page l = record {
  same : l.memory.memory ≡ l.fn.memory.memory;
  dirty : l.memory.dirty ≡ l.fn.memory.dirty;
}
