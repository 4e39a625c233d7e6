use Rattle.std.proofs.Common.{◌≡◌, ◌≤◌, ◌+◌, ◌*◌, ◌-◌}
use Rattle.snapshot.specs.Pages.{IsSorted, NoneInConflict}
use Rattle.snapshot.proofs.changes.find_changes.Given as goal

abbrev pub invariant-loop-page : goal.invariant-loop-page
invariant-loop-page l = record {
  above : l.fn.range.first ≤ l.from;
  within : l.from ≤ l.end;
  sorted : IsSorted l.parent l.child l.snapshot.memory l.fn.range.first l.from (l.fn.range.first + l.fn.range.count) l.found;
  child : l.child_cursor ≡ l.child;
  snapshot : l.snapshot_cursor ≡ l.snapshot;
  none : NoneInConflict l.agree l.snapshot.memory l.child.memory l.parent.memory (4096 * l.fn.range.first) (4096 * l.from);
}

abbrev pub decreases-loop-page : goal.decreases-loop-page
decreases-loop-page l = l.end - l.from
