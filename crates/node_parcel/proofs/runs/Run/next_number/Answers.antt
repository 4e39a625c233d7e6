use Rattle.std.proofs.Common.{arith}
use Rattle.node_parcel.proofs.AtOnce.{there_some}
use Rattle.node_parcel.proofs.runs.Run.next_number.Goals as goal

pub overflow_add-result : goal.overflow_add-result
overflow_add-result c = omega (arith, there_some c.args.known.now _ c.in-Some.number c.args.self.now.count c.in-Some.is c.requires.there, c.bounds.ensures.few)
