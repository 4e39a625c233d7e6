use Rattle.std.proofs.Common.{ℕ, ◌≡◌, ◌≤◌, ◌+◌, ◌-◌}
use Rattle.merge_model.specs.Merge.{with_merge}
use Rattle.space_mem.specs.Held.{KeepsMarks, Marks, Owns}
use Rattle.snapshot.specs.Pages.{IsPassedOver}
use Rattle.snapshot.proofs.overlaying.overlay_owned.Given as goal

abbrev pub invariant-loop-page : goal.invariant-loop-page
invariant-loop-page l = record {
  above : l.fn.range.first ≤ l.from;
  within : l.from ≤ l.end;
  child : l.child_cursor ≡ l.child;
  snapshot : l.snapshot_cursor ≡ l.snapshot;
  overlaid : l.parent.memory ≡ with_merge l.snapshot.memory l.child.memory l.fn.parent.memory l.fn.range.first (l.from - l.fn.range.first);
  stays : (page : ℕ) → Owns l.fn.parent page → Owns l.parent page;
  kept : (page : ℕ) → IsPassedOver l.child l.snapshot.memory l.fn.range.first (l.fn.range.first + l.fn.range.count) page → KeepsMarks l.fn.parent l.parent page;
  marks : Marks l.fn.parent l.parent;
}

abbrev pub decreases-loop-page : goal.decreases-loop-page
decreases-loop-page l = l.end - l.from
