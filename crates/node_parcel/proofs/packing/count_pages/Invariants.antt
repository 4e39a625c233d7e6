use Rattle.std.proofs.Common.{◌≡◌, ◌+◌, ◌-◌, ◌≤◌, ℕ, List, length}
use Rattle.memory_model.specs.Sizes.{pages}
use Rattle.parcel_model.specs.Packing.{entries_from, entries_of}
use Rattle.node_parcel.proofs.packing.count_pages.Given as goal

-- the pages before this one are counted
abbrev pub invariant-loop-page : goal.invariant-loop-page
invariant-loop-page l = record {
  within : l.from ≤ pages;
  few : l.count ≤ l.from;
  counted : (known : List (List ℕ)) → l.count + length (entries_from known l.memory.memory l.from (pages - l.from)) ≡ length (entries_of known l.memory.memory);
}

abbrev pub decreases-loop-page : goal.decreases-loop-page
decreases-loop-page l = pages - l.from
