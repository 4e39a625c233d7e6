use Rattle.std.proofs.Common.{ℕ, ◌≡◌, ◌≤◌, ◌+◌, ◌-◌}
use Rattle.space_mem.specs.Held.{KeepsMarks, Marks, Owns}
use Rattle.snapshot.specs.Pages.{IsPassedOver, OwnsChanged}
use Rattle.snapshot.proofs.overlaying.own_changed.Given as goal

abbrev pub invariant-loop-page : goal.invariant-loop-page
invariant-loop-page l = record {
  above : l.fn.range.first ≤ l.from;
  within : l.from ≤ l.end;
  child : l.child_cursor ≡ l.child;
  snapshot : l.snapshot_cursor ≡ l.snapshot;
  same : l.parent.memory ≡ l.fn.parent.memory;
  owned : OwnsChanged l.child.memory l.snapshot.memory l.parent l.fn.range.first l.from;
  stays : (page : ℕ) → Owns l.fn.parent page → Owns l.parent page;
  kept : (page : ℕ) → IsPassedOver l.child l.snapshot.memory l.fn.range.first (l.fn.range.first + l.fn.range.count) page → KeepsMarks l.fn.parent l.parent page;
  marks : Marks l.fn.parent l.parent;
}

abbrev pub decreases-loop-page : goal.decreases-loop-page
decreases-loop-page l = l.end - l.from
