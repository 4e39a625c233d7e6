use Rattle.std.proofs.Common.{◌≡◌, take}
use Rattle.parcel_model.specs.Residents.{with_residents}
use Rattle.node_parcel.proofs.residents.Residents.add_each.Given as goal

-- so many pages are added
abbrev pub invariant-loop-page : goal.invariant-loop-page
invariant-loop-page l = l.self ≡ with_residents l.fn.self (take l.page-index l.pages)
