use Rattle.node_parcel.proofs.Bounds.{block_fits}
use Rattle.node_parcel.proofs.packing.block_bounds.Goals as goal

pub returns : goal.returns
returns c = block_fits c.args.pc c.args.cause c.args.value c.args.x.now c.ranges.pc.fits c.ranges.cause.fits c.ranges.value.fits (λ i. (c.type_inv.x i).fits)
