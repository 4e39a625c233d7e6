use Rattle.std.proofs.Common.{◌≡◌, ◌-◌, ◌⊎◌, Some, IfSome, IsNone, refl, sym, ap, ◌∙◌, subst}
use Rattle.std.specs.Prelude.{option_map}
use Rattle.space_model.specs.Sound.{IsSound}
use Rattle.explain_core.specs.Beside.{all, child_of}
use Rattle.explain_core.specs.Reached.{HasAtLeast, NeverHappens, TellsLast}
use Rattle.explain_core.specs.Watch.{noted_of}
use Rattle.explain_why.specs.declared.origin.Sought.{Sought}
use Rattle.explain_why.proofs.Joins.{joined_child}
use Rattle.explain_why.proofs.Origins.{happens, left_in_copy, sought_of_all}
use Rattle.explain_why.proofs.origin.sought_below.Goals as goal

pub change_before-requires-clause-sound : goal.change_before-requires-clause-sound
change_before-requires-clause-sound c = subst IsSound (sym c.in_ok-tree.ensures.equal) c.requires.sound

pub change_before-requires-clause-number : goal.change_before-requires-clause-number
change_before-requires-clause-number c =
    (happens c.args.root.now c.args.sought.now.path.items c.args.sought.now.to c.args.sought.now.watched c.args.sought.now.value (noted_of c.args.change.now) c.requires.sound c.requires.left).1

pub change_before-requires-clause-child : goal.change_before-requires-clause-child
change_before-requires-clause-child c =
    let named = c.register-child.ensures in
    subst (λ n. c.args.path.items ≡ child_of c.args.sought.now.path.items n) (sym named)
    (joined_child c.args.sought.now.path.items c.args.path.items c.args.sought.now.watched (noted_of c.args.change.now) c.requires.path).0

pub returns-in-Some-clause-left : goal.returns-in-Some-clause-left
returns-in-Some-clause-left c =
    let tree = c.in_ok-tree.tree in
    let below = c.sought_at-below.result in
    let last = option_map noted_of c.in-Some.field-0.change in
    let tells = subst (λ o. IfSome o (λ b. TellsLast tree c.args.path.items b.count c.args.sought.now.watched (option_map noted_of b.change))) c.in-Some.is c.in_ok-count.ensures.tells in
    let here = subst (λ (x : Sought). TellsLast tree x.path.items x.to x.watched last) (sym c.sought_at-below.ensures) tells in
    left_in_copy c.args.root.now tree below.path.items below.to below.watched below.value last (option_map noted_of c.where_left-left.result) c.in_ok-tree.ensures.equal here c.where_left-left.ensures

pub returns-in_ok-left-in-None-clause-below : goal.returns-in_ok-left-in-None-clause-below
returns-in_ok-left-in-None-clause-below c =
    let tree = c.in_ok-tree.tree in
    let s = c.args.sought.now in
    let change = noted_of c.args.change.now in
    let is = c.sought_at-below-in-None.ensures in
    let path = sym (ap (λ (x : Sought). x.path.items) is) in
    let none = c.in_ok-count.ensures.none (subst IsNone (sym c.in-None.is) refl) in
    sought_of_all c.args.root.now tree s c.sought_at-below-in-None.result change c.in_ok-tree.ensures.equal c.requires.sound c.requires.left (c.requires.path ∙ ap Some path)
    (subst (λ q. NeverHappens tree s.path.items (change.number - 1) ⊎ HasAtLeast tree q all) path none) (ap (λ (x : Sought). x.watched) is) (ap (λ (x : Sought). x.value) is)
