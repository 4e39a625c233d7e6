use Rattle.std.proofs.Common.{◌≡◌, ◌<◌, sym, ap, ◌∙◌, subst}
use Rattle.std.specs.Prelude.{Some}
use Rattle.node_places.specs.Places.{HasGone, away_in, put}
use Rattle.node_places.proofs.Paths.{put_is}
use Rattle.node_places.proofs.Placed.{seen, listing, gone, still_nodes, to_away, none_of}
use Rattle.node_places.proofs.places.Places.go.Goals as goal

pub invariant_of-self : goal.invariant_of-self
invariant_of-self c =
    still_nodes c.self.inside.away c.insert.new.self c.args.path (Some c.args.node) c.in_ok-insert.ensures.updates c.self.inside.nodes
    (λ node is. let same : c.args.node ≡ node = cc in subst (λ n. n < c.self.inside.nodes) same (subst (λ s. c.args.node < s.nodes) (sym c.self.view_is) c.requires)) c.self.invariant

pub returns-in_ok-insert-clause-ok : goal.returns-in_ok-insert-clause-ok
returns-in_ok-insert-clause-ok c =
    let p = c.args.path in
    subst (λ s. HasGone p.items c.args.node s (seen c.self.inside.nodes c.insert.new.self)) c.self.view_is (gone c.self.inside.away c.insert.new.self p (Some c.args.node) c.in_ok-insert.ensures.updates c.self.inside.nodes)

pub returns-in_ok-insert-clause-to : goal.returns-in_ok-insert-clause-to
returns-in_ok-insert-clause-to c =
    let p = c.args.path in
    let seen_put = ap (listing (seen c.self.inside.nodes c.self.inside.away)) (ap away_in c.in_ok-insert.ensures.entries ∙ put_is c.self.inside.away.entries p c.args.node) ∙ ap (λ s. listing s (put s.away p.items c.args.node)) c.self.view_is in
    let unlisted = none_of c.listed.result (sym c.is_some.ensures ∙ c.if-is_some.false) in
    seen_put ∙ to_away c.args.self.now p.items c.args.node (sym c.listed.ensures.is ∙ unlisted) (λ e. c.if-node-home.true (e ∙ sym c.home.ensures.is))
