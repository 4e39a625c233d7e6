use Rattle.std.proofs.Common.{◌≡◌, ◌-◌, ◌≤◌, ◌++◌}
use Rattle.std.specs.List.{flat_map}
use Rattle.memory_model.specs.Sizes.{pages}
use Rattle.parcel_model.specs.Parcel.{entry_spelling, memory_spelling}
use Rattle.parcel_model.specs.Packing.{entries_from, entries_of}
use Rattle.parcel_model.specs.Sent.{whole_pages}
use Rattle.node_parcel.proofs.packing.put_memory.Given as goal

-- the pages before this one are written
abbrev pub invariant-loop-page : goal.invariant-loop-page
invariant-loop-page l = record {
  within : l.from ≤ pages;
  whole : l.whole.items ++ whole_pages (entries_from l.known l.memory.memory l.from (pages - l.from)) ≡ l.fn.whole.items ++ whole_pages (entries_of l.known l.memory.memory);
  written : l.out.items ++ flat_map entry_spelling (entries_from l.known l.memory.memory l.from (pages - l.from)) ≡ l.fn.out.items ++ memory_spelling (entries_of l.known l.memory.memory);
}

abbrev pub decreases-loop-page : goal.decreases-loop-page
decreases-loop-page l = pages - l.from
