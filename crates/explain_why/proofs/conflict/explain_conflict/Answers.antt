use Rattle.std.proofs.Common.{◌≡◌, ap, ◌∙◌, subst}
use Rattle.std.specs.Prelude.{option_map, slice_index}
use Rattle.std.proofs.lemmas.Result.{IfOk-weaker}
use Rattle.space_model.specs.Space.{Top}
use Rattle.explain_core.specs.Joins.{child_path}
use Rattle.explain_why.proofs.Joins.{child_named, joined}
use Rattle.explain_why.proofs.conflict.explain_conflict.Goals as goal

pub told_conflict-requires-clause-child : goal.told_conflict-requires-clause-child
told_conflict-requires-clause-child c =
    let named = subst (λ o. option_map (λ p. p.items) o ≡ child_path c.args.path.now.items c.register-number.result) c.in-Some.is c.in_ok-below.ensures in
    child_named c.args.path.now.items c.in-Some.below.items c.register-number.result named

pub returns-clause-told : goal.returns-clause-told
returns-clause-told c =
    let number = c.register-number.ensures ∙ ap (λ (t : Top). let r = t.registers in slice_index r.x 11) c.parent.view_is in
    let named = subst (λ o. option_map (λ p. p.items) o ≡ child_path c.args.path.now.items c.register-number.result) c.in-Some.is c.in_ok-below.ensures in
    let sides = c.in-Some-sides_of.sides in
    let there = c.in-Some-sides_of.ensures.some in
    IfOk-weaker c.told_conflict.result _ _
    (λ v tells. joined c.args.root.now c.args.end.now c.args.path.now.items c.in-Some.below.items c.args.parent.now sides.parent.now sides.child.now sides.snapshot.now.memory c.register-number.result c.args.address v.items
    number named there.0 there.1 tells) c.told_conflict.ensures.told
