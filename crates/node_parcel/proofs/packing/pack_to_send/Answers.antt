use Rattle.std.proofs.Common.{arith}
use Rattle.node_parcel.proofs.Written.{is_parcel}
use Rattle.node_parcel.proofs.packing.pack_to_send.Goals as goal

pub returns-clause-parcel : goal.returns-clause-parcel
returns-clause-parcel c = is_parcel c.args.known.now c.args.top.now c.written.result (omega (arith, c.bounds.ensures.few)) c.may_travel.ensures c.written.ensures.bytes
