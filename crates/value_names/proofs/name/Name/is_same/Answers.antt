use Rattle.std.proofs.Common.{◌≡◌, ◌<◌, sym, ◌∙◌, ap, subst, arith, length, slice_get, List}
use Rattle.std.proofs.lemmas.Bool.Decides.{nat_tests}
use mathlib.Core.List.{IsPrefix}
use Rattle.value_names.proofs.Prefixes.{prefixes_get}
use Rattle.value_names.proofs.name.Name.is_same.Goals as goal

pub returns : goal.returns
returns g c t =
    let a = c.self.inside in
    let b = c.other.inside in
    let both = c.learn.new.self.log in
    let number : a.number ≡ b.number = grind (arith, nat_tests) in
    let this : IsPrefix a.seen.log both = subst (λ (l : List g.row.T.Denot). IsPrefix l both) (ap (λ s. s.log) c.again-both.ensures) c.learn.ensures.2 in
    let room : a.number < length b.seen.log = omega (arith, number, c.other.invariant.0) in
    sym c.self.view_is ∙ (prefixes_get a.seen.log b.seen.log both a.number this c.learn.ensures.3 c.self.invariant.0 room ∙ (ap (λ k. slice_get b.seen.log k) number ∙ c.other.view_is))
