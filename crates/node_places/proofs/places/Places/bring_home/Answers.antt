use Rattle.std.proofs.Common.{◌<◌, length, sym, ap, ◌∙◌, subst}
use Rattle.std.specs.Prelude.{None}
use Rattle.node_places.specs.Places.{HasGone, away_in, home, without}
use Rattle.node_places.proofs.Paths.{without_is}
use Rattle.node_places.proofs.Placed.{seen, listing, gone, listed_here, still_nodes, without_less}
use Rattle.node_places.proofs.places.Places.bring_home.Goals as goal

pub invariant_of-self : goal.invariant_of-self
invariant_of-self c = still_nodes c.self.inside.away c.remove.new.self c.args.path.now None c.remove.ensures.updates c.self.inside.nodes (λ node e. cc) c.self.invariant

pub returns-clause-gone : goal.returns-clause-gone
returns-clause-gone c =
    let p = c.args.path.now in
    subst (λ s. HasGone p.items (home s.nodes p.items) s (seen c.self.inside.nodes c.remove.new.self)) c.self.view_is (gone c.self.inside.away c.remove.new.self p None c.remove.ensures.updates c.self.inside.nodes)

pub returns-clause-is : goal.returns-clause-is
returns-clause-is c =
    let p = c.args.path.now in
    ap (listing (seen c.self.inside.nodes c.self.inside.away)) (ap away_in c.remove.ensures.entries ∙ without_is c.self.inside.away.entries p) ∙ ap (λ s. listing s (without s.away p.items)) c.self.view_is

pub returns-clause-less : goal.returns-clause-less
returns-clause-less c = λ some. subst (λ s. length s.away < length c.args.self.now.away) (sym (returns-clause-is c)) (without_less c.args.self.now.away c.args.path.now.items some)

pub returns-clause-off : goal.returns-clause-off
returns-clause-off c = listed_here c.self.inside.away c.remove.new.self c.args.path.now None c.remove.ensures.updates
