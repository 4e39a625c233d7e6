use Rattle.std.proofs.lemmas.Result.{IfOk-weaker}
use Rattle.space_tree.proofs.Boxes.{numbers_in}
use Rattle.space_tree.proofs.children.Children.numbers.Goals as goal

pub returns : goal.returns
returns c = IfOk-weaker c.keys.result _ _ (λ ns told. numbers_in c.self.inside.entries.entries ns.items c.args.self.now c.self.view_is told) c.keys.ensures.numbers
