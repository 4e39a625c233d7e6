use Rattle.std.proofs.Common.{◌≡◌, true≢false, sym, ◌∙◌, subst}
use Rattle.std.specs.Prelude.{IsSome, None}
use Rattle.node_places.specs.Places.{IsAbove, listed}
use Rattle.node_places.proofs.Placed.{first_listed, none_below, none_behind}
use Rattle.node_places.proofs.places.Places.first_below.Goals as goal

pub returns-then-is_below-clause-some : goal.returns-then-is_below-clause-some
returns-then-is_below-clause-some c =
    let p = c.args.path.now in
    let k = c.in-Some.first.now in
    let some = first_listed c.self.inside.away p c.range.result (c.range.ensures.in_range tt) k c.in-Some.field-0-1.now c.next.new.self c.in-Some.ensures.steps in
    let seen_some = subst (λ s. IsSome (listed s.away k.items)) c.self.view_is some in
    subst (λ r. IsAbove p.items r.items × IsSome (listed c.args.self.now.away r.items)) (sym c.copy.ensures) (c.is_below.ensures.yes c.if-is_below.true, seen_some)

pub returns-else-is_below-clause-none : goal.returns-else-is_below-clause-none
returns-else-is_below-clause-none c =
    let p = c.args.path.now in
    let k = c.in-Some.first.now in
    let beside : IsAbove p.items k.items → ⊥ = λ above. true≢false (sym (c.is_below.ensures.no above) ∙ c.if-is_below.false) in
    λ none q above.
    subst (λ s. listed s.away q ≡ None) c.self.view_is
    (none_below c.self.inside.away p c.range.result (c.range.ensures.in_range tt) k c.in-Some.field-0-1.now c.next.new.self c.in-Some.ensures.steps beside q above)

pub returns-in-None-clause-none : goal.returns-in-None-clause-none
returns-in-None-clause-none c =
    let p = c.args.path.now in
    λ none q above. subst (λ s. listed s.away q ≡ None) c.self.view_is (none_behind c.self.inside.away p c.range.result (c.range.ensures.in_range tt) c.in-None.ensures.steps.0 q above)
