use Rattle.std.proofs.Common.{◌≡◌, ◌-◌, ◌≤◌}
use Rattle.memory_model.specs.Sizes.{pages}
use Rattle.node_parcel.proofs.Marks.{IsMarked}
use Rattle.node_parcel.proofs.marking.mark_differences.Given as goal

-- before this page exactly the pages that differ are dirty, and none from there on
abbrev pub invariant-loop-page : goal.invariant-loop-page
invariant-loop-page l = record {
  within : l.from ≤ pages;
  same : l.memory.memory ≡ l.fn.memory.memory;
  marked : IsMarked l.memory l.snapshot.memory l.from;
}

abbrev pub decreases-loop-page : goal.decreases-loop-page
decreases-loop-page l = pages - l.from
