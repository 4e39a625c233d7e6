use Rattle.std.proofs.Common.{◌∙◌}
use Rattle.node_link.proofs.Slots.{linked_err, linked_ok}
use Rattle.node_link.proofs.links.Links.carry.Goals as goal

pub invariant_of-self : goal.invariant_of-self
invariant_of-self c = (c.carry_at.ensures.places ∙ c.self.invariant.0, c.self.invariant.1)

pub returns-clause-ok : goal.returns-clause-ok
returns-clause-ok c =
    linked_ok c.carry_at.result (record { seed = c.self.inside.seed; nodes = c.self.inside.nodes; links = c.self.inside.links.items }) c.args.self.now c.args.from c.args.to c.place.result c.carry_at.new.links.items
    c.self.view_is c.place.ensures c.carry_at.ensures.ok

pub returns-clause-err : goal.returns-clause-err
returns-clause-err c =
    linked_err c.carry_at.result (record { seed = c.self.inside.seed; nodes = c.self.inside.nodes; links = c.self.inside.links.items }) c.args.self.now c.carry_at.new.links.items c.self.view_is c.carry_at.ensures.err
