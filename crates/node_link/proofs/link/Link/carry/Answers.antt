use Rattle.std.proofs.Common.{ap, ◌∙◌, arith}
use Rattle.link_model.specs.Carrying.{Carrier}
use Rattle.node_link.proofs.Going.{over}
use Rattle.node_link.proofs.link.Link.carry.Goals as goal

pub returns-in-Ok-clause-ok : goal.returns-in-Ok-clause-ok
returns-in-Ok-clause-ok c = c.drop.view_is ∙ c.in-Ok.ensures.link

pub returns-in-Ok-clause-events : goal.returns-in-Ok-clause-events
returns-in-Ok-clause-events c w start =
    let few = c.self.invariant.1 in
    let room = c.if-self-gt-MOST_FRAMES.false in
    let carried = ap (λ (l : Carrier). l.carried) c.self.view_is in
    over w c.args.self.now _ c.args.parcel.now (omega (arith, few, room, carried)) (c.drop.view_is ∙ c.in-Ok.ensures.link) start
