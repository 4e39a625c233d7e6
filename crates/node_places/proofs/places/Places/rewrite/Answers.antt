use Rattle.std.proofs.Common.{◌≡◌, ◌<◌, sym, ap, ◌∙◌, subst}
use Rattle.std.specs.Prelude.{Some, is_some}
use Rattle.node_places.specs.Places.{HasGone, away_in, listed, rewritten}
use Rattle.node_places.proofs.Paths.{listed_is, rewritten_is}
use Rattle.node_places.proofs.Placed.{seen, listing, gone, still_nodes, unlisted_rewritten, none_some}
use Rattle.node_places.proofs.places.Places.rewrite.Goals as goal

pub returns-in_default-clause-is : goal.returns-in_default-clause-is
returns-in_default-clause-is c =
    let p = c.args.path.now in
    let none = ap (λ s. listed s.away p.items) (sym c.self.view_is) ∙ listed_is c.self.inside.away.entries p ∙ sym c.in_default.ensures.value in
    ap (λ m. seen c.self.inside.nodes m) c.get_mut.follows.holds-at-none ∙ c.self.view_is ∙ ap (listing c.args.self.now) (sym (unlisted_rewritten c.args.self.now.away p.items c.args.node none))

pub returns-in_default-clause-gone : goal.returns-in_default-clause-gone
returns-in_default-clause-gone c =
    let p = c.args.path.now in
    let none = ap (λ s. listed s.away p.items) (sym c.self.view_is) ∙ listed_is c.self.inside.away.entries p ∙ sym c.in_default.ensures.value in
    λ some. none_some (listed c.args.self.now.away p.items) none some

pub invariant_of-self-2 : goal.invariant_of-self-2
invariant_of-self-2 c =
    let told = c.get_mut.follows.holds c.args.node in
    let is_there = ap is_some (sym c.in-Some.ensures.value) in
    still_nodes c.self.inside.away (c.get_mut.follows.lender c.args.node) c.args.path.now (Some c.args.node) (told.3 is_there) c.self.inside.nodes
    (λ node is. let same : c.args.node ≡ node = cc in subst (λ n. n < c.self.inside.nodes) same (subst (λ s. c.args.node < s.nodes) (sym c.self.view_is) c.requires)) c.self.invariant

pub returns-clause-is : goal.returns-clause-is
returns-clause-is c =
    let p = c.args.path.now in
    let told = c.get_mut.follows.holds c.args.node in
    ap (listing (seen c.self.inside.nodes c.self.inside.away)) (ap away_in told.0 ∙ rewritten_is c.self.inside.away.entries p c.args.node) ∙ ap (λ s. listing s (rewritten s.away p.items c.args.node)) c.self.view_is

pub returns-clause-gone : goal.returns-clause-gone
returns-clause-gone c =
    let p = c.args.path.now in
    let told = c.get_mut.follows.holds c.args.node in
    let n = c.get_mut.follows.lender c.args.node in
    let is_there = ap is_some (sym c.in-Some.ensures.value) in
    λ some. subst (λ s. HasGone p.items c.args.node s (seen c.self.inside.nodes n)) c.self.view_is (gone c.self.inside.away n p (Some c.args.node) (told.3 is_there) c.self.inside.nodes)
