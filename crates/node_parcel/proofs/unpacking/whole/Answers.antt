use Rattle.node_parcel.proofs.OneNumber.{alike_in}
use Rattle.node_parcel.proofs.unpacking.whole.Goals as goal

pub mark-requires : goal.mark-requires
mark-requires c = rw c.deref.ensures.value (alike_in c.args.known.now c.in_ok-placed.placed.memory.memory c.in_ok-placed.placed.spans.items c.in_ok-snapshot.snapshot c.in_ok-placed.ensures.spans c.in_ok-snapshot.ensures.spans)
