use Rattle.std.proofs.Common.{◌∙◌, Some, None, inl, inr, ap}
use Rattle.std.proofs.Math.Path.{fun_ext}
use Rattle.std.specs.Box.{with_value}
use Rattle.space_tree.specs.Kept.{children_in}
use Rattle.space_tree.proofs.Boxes.{found, lent}
use Rattle.space_tree.proofs.children.Children.get_mut.Goals as goal

pub returns-in-Some : goal.returns-in-Some
returns-in-Some c =
    let cs = c.args.self.now in
    let es = c.self.inside.entries.entries in
    let b = c.in-Some.child.now in (
      ap (λ f. inl (c.deref_mut.result.ghost_name, f))
          (fun_ext (λ w. lent c.args.number b w cs es (c.get_mut.follows.lender (with_value b w)).entries c.self.view_is c.in-Some.ensures.value (c.get_mut.follows.holds (with_value b w)).0)),
      record { lends = tt; value = ap Some c.deref_mut.ensures.value ∙ found c.args.number (Some b) cs es c.self.view_is c.in-Some.ensures.value },
    )

pub returns-in-None : goal.returns-in-None
returns-in-None c =
    let cs = c.args.self.now in
    let es = c.self.inside.entries.entries in (
      ap inr (ap (λ m. children_in m.entries) c.get_mut.follows.holds-at-none ∙ c.self.view_is),
      record { lends = tt; value = found c.args.number None cs es c.self.view_is c.in-None.ensures.value },
    )
