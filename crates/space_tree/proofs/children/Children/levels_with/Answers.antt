use Rattle.space_tree.proofs.Kept.{levels_once_put}
use Rattle.space_tree.proofs.children.Children.levels_with.Goals as goal

pub returns-in-Some : goal.returns-in-Some
returns-in-Some c = levels_once_put c.levels_after.result c.args.number c.in-Some.new c.args.child.now c.args.self.now c.in-Some.ensures c.levels_after.ensures
