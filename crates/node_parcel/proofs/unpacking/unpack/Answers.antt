use Rattle.std.proofs.Common.{arith}
use Rattle.node_parcel.proofs.Found.{is_exact, is_found, is_only}
use Rattle.node_parcel.proofs.unpacking.unpack.Goals as goal

pub returns-clause-found : goal.returns-clause-found
returns-clause-found c = is_found c.args.known.now c.args.bytes.now c.whole.result (λ i. omega (arith, c.type_inv.bytes i)) c.whole.ensures

pub returns-clause-only : goal.returns-clause-only
returns-clause-only c = λ t h. is_only c.args.known.now c.args.bytes.now c.whole.result t h c.whole.ensures

pub returns-clause-exact : goal.returns-clause-exact
returns-clause-exact c = is_exact c.args.known.now c.args.bytes.now c.whole.result c.whole.ensures
