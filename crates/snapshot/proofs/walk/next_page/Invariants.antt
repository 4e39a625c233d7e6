use Rattle.std.proofs.Common.{◌≡◌, ◌≤◌, ◌-◌}
use Rattle.snapshot.specs.Pages.{ArePassed, SameBytes}
use Rattle.snapshot.proofs.walk.next_page.Given as goal

abbrev pub invariant-loop-dirty : goal.invariant-loop-dirty
invariant-loop-dirty l = record {
  above : l.fn.from ≤ l.at;
  same : SameBytes l.fn.child.memory l.fn.snapshot.memory l.fn.from l.at;
  passed : ArePassed l.fn.child l.fn.from l.at;
  child : l.child ≡ l.fn.child;
  snapshot : l.snapshot ≡ l.fn.snapshot;
}

abbrev pub decreases-loop-dirty : goal.decreases-loop-dirty
decreases-loop-dirty l = 1048576 - l.at
