use Rattle.std.proofs.Common.{sym, subst}
use Rattle.space_tree.specs.Kept.{IsKept}
use Rattle.space_tree.proofs.Boxes.{put}
use Rattle.space_tree.proofs.children.Children.insert.Goals as goal

pub invariant_of-self-2 : goal.invariant_of-self-2
invariant_of-self-2 c =
    let is = put c.args.number c.in_ok-child.child c.args.child c.args.self.now c.self.inside.entries c.insert.new.self.entries c.self.view_is c.in_ok-insert.ensures.was_ordered c.in_ok-child.ensures.ok
    c.in_ok-insert.ensures.entries in
    subst (IsKept c.are_settled_with-settled.result c.levels_with-levels.result) (sym is) (record { settled = c.are_settled_with-settled.ensures c.args.number; levels = c.levels_with-levels.ensures })

pub returns-clause-ok : goal.returns-clause-ok
returns-clause-ok c =
    put c.args.number c.in_ok-child.child c.args.child c.args.self.now c.self.inside.entries c.insert.new.self.entries c.self.view_is c.in_ok-insert.ensures.was_ordered c.in_ok-child.ensures.ok c.in_ok-insert.ensures.entries
