use Rattle.std.proofs.Common.{◌≡◌, ◌≤◌, ◌-◌}
use Rattle.snapshot.specs.Pages.{SameBytes}
use Rattle.snapshot.proofs.overlaying.next_changed.Given as goal

abbrev pub invariant-loop-page : goal.invariant-loop-page
invariant-loop-page l = record {
  above : l.fn.from ≤ l.at;
  same : SameBytes l.fn.child.memory l.fn.snapshot.memory l.fn.from l.at;
  child : l.child ≡ l.fn.child;
  snapshot : l.snapshot ≡ l.fn.snapshot;
}

abbrev pub decreases-loop-page : goal.decreases-loop-page
decreases-loop-page l = l.end - l.at
