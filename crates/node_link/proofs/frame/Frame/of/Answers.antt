use Rattle.std.proofs.Common.{arith}
use Rattle.node_link.proofs.Frames.{spelled_read}
use Rattle.node_link.proofs.frame.Frame.of.Goals as goal

pub invariant_of-result : goal.invariant_of-result
invariant_of-result c = spelled_read c.args.number c.args.parcel.now c.args.bytes.items c.requires.numbered (let a = c.args.bytes.small in let b = c.args.bytes.ok in omega (arith, a, b)) c.requires.spelled
