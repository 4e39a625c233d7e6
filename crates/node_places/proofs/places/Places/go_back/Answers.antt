use Rattle.std.proofs.Common.{sym, ap, ◌∙◌}
use Rattle.node_places.specs.Places.{rewritten, without}
use Rattle.node_places.proofs.Placed.{listing, undone_listed, undone_unlisted}
use Rattle.node_places.proofs.places.Places.go_back.Goals as goal

pub returns-in-Some : goal.returns-in-Some
returns-in-Some c =
    let p = c.args.path.now.items in
    record { back = λ first node is e. c.rewrite.ensures.is ∙ ap (λ s. listing s (rewritten s.away p c.in-Some.node)) is ∙ ap (listing first) (undone_listed first p node c.in-Some.node (sym e ∙ c.in-Some.is)) }

pub returns-in-None : goal.returns-in-None
returns-in-None c =
    let p = c.args.path.now.items in
    record { back = λ first node is e. c.bring_home.ensures.is ∙ ap (λ s. listing s (without s.away p)) is ∙ ap (listing first) (undone_unlisted first p node (sym e ∙ c.in-None.is)) }
