use Rattle.std.proofs.Common.{◌∙◌, Some, None, ap}
use Rattle.space_tree.proofs.Boxes.{found}
use Rattle.space_tree.proofs.children.Children.get.Goals as goal

pub returns-in-Some : goal.returns-in-Some
returns-in-Some c =
    ap Some c.deref.ensures ∙ found c.args.number (Some c.in-Some.child.now) c.args.self.now c.self.inside.entries.entries c.self.view_is c.in-Some.ensures.value

pub returns-in-None : goal.returns-in-None
returns-in-None c = found c.args.number None c.args.self.now c.self.inside.entries.entries c.self.view_is c.in-None.ensures.value
