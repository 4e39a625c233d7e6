use Rattle.std.proofs.Common.{◌≡◌, ◌-◌, ◌++◌}
use Rattle.std.specs.List.{flat_map}
use Rattle.parcel_model.specs.Parcel.{entry_spelling}
use Rattle.node_parcel.specs.Bare.{bare_entries}
use Rattle.node_parcel.proofs.packing.put_bare.Given as goal

-- the pages before this one are written
abbrev pub invariant-loop-page : goal.invariant-loop-page
invariant-loop-page l = l.out.items ++ flat_map entry_spelling (bare_entries l.permission l.page (l.end - l.page)) ≡ l.fn.out.items ++ flat_map entry_spelling (bare_entries l.permission l.first (l.end - l.first))
