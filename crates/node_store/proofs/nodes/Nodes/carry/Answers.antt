use Rattle.std.proofs.Common.{length}
use Rattle.node_store.proofs.Linked.{as_it_was, between, none_over, one_over}
use Rattle.node_store.proofs.nodes.Nodes.carry.Goals as goal

pub invariant_of-self : goal.invariant_of-self
invariant_of-self c = between (length c.self.inside.lists.items) c.self.inside.links c.in-Some.links c.carry.new.self c.self.invariant c.in-Some.is c.carry.ensures.nodes

pub returns-in-Some-clause-parcel : goal.returns-in-Some-clause-parcel
returns-in-Some-clause-parcel c = as_it_was c.carry.result c.deref.result.now c.args.parcel.items c.deref.ensures.value c.carry.ensures.parcel

pub returns-in-Some-clause-ok : goal.returns-in-Some-clause-ok
returns-in-Some-clause-ok c = one_over c.carry.result c.self.inside.lists.items c.in-Some.links c.carry.new.self c.self.inside.links c.args.self.now c.args.from c.args.to c.self.view_is c.in-Some.is c.carry.ensures.ok

pub returns-in-Some-clause-err : goal.returns-in-Some-clause-err
returns-in-Some-clause-err c = none_over c.carry.result c.self.inside.lists.items c.in-Some.links c.carry.new.self c.self.inside.links c.args.self.now c.self.view_is c.in-Some.is c.carry.ensures.err
