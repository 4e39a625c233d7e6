use Rattle.std.proofs.Common.{◌∙◌, sym, ap}
use Rattle.std.specs.Prelude.{max}
use Rattle.space_model.specs.Space.{levels_of, remove_child}
use Rattle.space_tree.proofs.Kept.{levels_split}
use Rattle.space_tree.proofs.children.Children.levels_after.Goals as goal

pub returns : goal.returns
returns c =
    let others = levels_of (remove_child c.args.number c.args.self.now) in
    c.levels_with_other.ensures others (sym c.in_ok-levels.ensures ∙ levels_split c.args.number c.args.self.now ∙ ap (λ k. max k others) c.in_ok-former.ensures)
