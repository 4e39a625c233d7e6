use Rattle.std.proofs.Common.{◌≡◌, take}
use Rattle.node_link.specs.Offers.{kept_of}
use Rattle.node_link.proofs.sender.copied.Given as goal

abbrev pub invariant-loop-parcel : goal.invariant-loop-parcel
invariant-loop-parcel l = kept_of l.out.items ≡ take l.parcel-index (kept_of l.parcels)
