use Rattle.std.proofs.Common.{◌∙◌}
use Rattle.node_link.proofs.Receipts.{copied_more}
use Rattle.node_link.proofs.sender.copied.Goals as goal

pub loop-parcel-preserved : goal.loop-parcel-preserved
loop-parcel-preserved c =
    copied_more c.args.parcels.now c.loop-parcel.out.items c.push.new.self.items c.parcel-item.result c.in_ok-from_slice.field-0 c.loop-parcel.parcel-index c.loop-parcel.invariant c.loop-parcel-test.true
    c.parcel-item.is (c.in_ok-from_slice.ensures.items ∙ c.deref.ensures.value) c.in_ok-push.ensures.items
