use Rattle.std.proofs.Common.{sym, ap, ◌∙◌, subst}
use Rattle.node_places.specs.Places.{AreNodes, listed}
use Rattle.node_places.proofs.Paths.{listed_is}
use Rattle.node_places.proofs.Placed.{listed_below}
use Rattle.node_places.proofs.places.Places.listed.Goals as goal

pub returns-clause-is : goal.returns-clause-is
returns-clause-is c =
    let p = c.args.path.now in
    c.copied.ensures ∙ c.get.ensures.value ∙ sym (listed_is c.self.inside.away.entries p) ∙ ap (λ s. listed s.away p.items) c.self.view_is

pub returns-clause-below : goal.returns-clause-below
returns-clause-below c = listed_below c.args.self.now c.args.path.now.items c.copied.result (subst AreNodes c.self.view_is c.self.invariant) (returns-clause-is c)
