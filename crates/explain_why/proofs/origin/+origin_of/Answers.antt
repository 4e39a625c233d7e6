use Rattle.std.proofs.Common.{[], ◌∷◌, ◌++◌, codes, IfSome, IsNone, refl, sym, ap, ap₂, ◌∙◌, subst, arith}
use Rattle.std.specs.Prelude.{option_map}
use Rattle.std.proofs.lemmas.Result.{IfOk-weaker}
use Rattle.space_model.specs.Sound.{IsSound}
use Rattle.explain_core.specs.Watch.{noted_of}
use Rattle.explain_why.specs.Origin.{IsLeft, TellsOrigin}
use Rattle.explain_why.specs.Sought.{IsSoughtBelow}
use Rattle.explain_why.proofs.Joins.{one_deeper}
use Rattle.explain_why.proofs.Origins.{told_join, told_none, told_own}
use Rattle.explain_why.proofs.origin.+origin_of.Goals as goal

pub returns-in_default-clause-told : goal.returns-in_default-clause-told
returns-in_default-clause-told t c =
    let s = c.args.sought.now in
    let none = subst (λ o. IsLeft c.args.root.now s.path.items s.to s.watched s.value (option_map noted_of o)) c.in_default.is c.requires.1.1.1 in
    IfOk-weaker c.line_of_none.result _ _ (λ v line. told_none c.args.root.now s c.args.word.now v.items none line) c.line_of_none.ensures

pub joined-requires-clause-left : goal.joined-requires-clause-left
joined-requires-clause-left t c =
    let s = c.args.sought.now in subst (λ o. IsLeft c.args.root.now s.path.items s.to s.watched s.value (option_map noted_of o)) c.in-Some.is c.requires.1.1.1

pub returns-in_default-2-clause-told : goal.returns-in_default-2-clause-told
returns-in_default-2-clause-told t c =
    let s = c.args.sought.now in
    let by = subst (λ o. IsLeft c.args.root.now s.path.items s.to s.watched s.value (option_map noted_of o)) c.in-Some.is c.requires.1.1.1 in
    let alone = c.in_ok-below.ensures.none (subst IsNone (sym c.in_default-2.is) refl) in
    IfOk-weaker c.line_of_change.result _ _
    (λ v line. told_own c.args.root.now s c.args.word.now v.items (noted_of c.in-Some.change) by alone (line ∙ ap (λ l. c.args.word.now ++ 32 ∷ (l ++ [])) c.deref.ensures.value)) c.line_of_change.ensures

pub origin_of-requires : goal.origin_of-requires
origin_of-requires t c =
    let s = c.args.sought.now in
    let root = c.args.root.now in
    let below = subst (λ o. IfSome o (λ r. IsSoughtBelow root s (noted_of c.in-Some.change) r.0)) c.in-Some-2.is c.in_ok-below.ensures.some in
    let left = subst (λ o. IfSome o (λ r. IsLeft root r.0.path.items r.0.to r.0.watched r.0.value (option_map noted_of r.1))) c.in-Some-2.is c.in_ok-below.ensures.left in
    let deeper = one_deeper s.path.items c.in-Some-2.below.path.items s.watched (noted_of c.in-Some.change) below.path in
    let same = sym c.joined.ensures.same in
    (omega (arith, deeper), (subst IsSound same c.requires.1.1.0, subst (λ r. IsLeft r c.in-Some-2.below.path.items c.in-Some-2.below.to c.in-Some-2.below.watched c.in-Some-2.below.value (option_map noted_of c.in-Some-2.left)) same left))

pub returns-clause-told : goal.returns-clause-told
returns-clause-told t c =
    let s = c.args.sought.now in
    let by = subst (λ o. IsLeft c.args.root.now s.path.items s.to s.watched s.value (option_map noted_of o)) c.in-Some.is c.requires.1.1.1 in
    let below = subst (λ o. IfSome o (λ r. IsSoughtBelow c.args.root.now s (noted_of c.in-Some.change) r.0)) c.in-Some-2.is c.in_ok-below.ensures.some in
    let through = subst (λ r. TellsOrigin r c.in-Some-2.below.watched c.in-Some-2.below.path.items c.in-Some-2.below.to c.in-Some-2.below.value (codes "through") c.in_ok-rest.rest.items) c.joined.ensures.same c.in_ok-rest.ensures.told in
    IfOk-weaker c.line_of_change-2.result _ _
    (λ v line. told_join c.args.root.now s c.in-Some-2.below c.args.word.now v.items c.in_ok-rest.rest.items (noted_of c.in-Some.change) by below through
    (line ∙ ap₂ (λ l r. c.args.word.now ++ 32 ∷ (l ++ r)) c.deref-2.ensures.value c.deref-3.ensures.value)) c.line_of_change-2.ensures
