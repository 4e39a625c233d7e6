use Rattle.std.proofs.Common.{◌∙◌, sym, ap, subst}
use Rattle.space_model.specs.Space.{are_settled}
use Rattle.space_tree.specs.Kept.{IsKept}
use Rattle.space_tree.proofs.Boxes.{removed}
use Rattle.space_model.proofs.Settled.{settled_remove}
use Rattle.space_tree.proofs.Kept.{levels_once_removed}
use Rattle.space_tree.proofs.children.Children.remove.Goals as goal

pub invariant_of-self-else-is_empty : goal.invariant_of-self-else-is_empty
invariant_of-self-else-is_empty c =
    let cs = c.args.self.now in
    let is = removed c.args.number cs c.self.inside.entries.entries c.remove.new.self.entries c.self.view_is c.remove.ensures.entries in
    subst (IsKept c.self.inside.settled c.levels_after-levels.result) (sym is) (record {
      settled = λ h. settled_remove c.args.number cs (ap are_settled (sym c.self.view_is) ∙ c.self.invariant.settled h);
      levels = levels_once_removed c.levels_after-levels.result c.args.number cs c.levels_after-levels.ensures;
    })

pub returns-then-is_empty : goal.returns-then-is_empty
returns-then-is_empty c = removed c.args.number c.args.self.now c.self.inside.entries.entries c.remove.new.self.entries c.self.view_is c.remove.ensures.entries

pub returns-else-is_empty : goal.returns-else-is_empty
returns-else-is_empty c = removed c.args.number c.args.self.now c.self.inside.entries.entries c.remove.new.self.entries c.self.view_is c.remove.ensures.entries
