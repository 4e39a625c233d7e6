use Rattle.space_model.proofs.Settled.{settled_put}
use Rattle.space_tree.proofs.children.Children.are_settled_with.Goals as goal

pub returns-then-are_known_settled : goal.returns-then-are_known_settled
returns-then-are_known_settled c = λ number h. settled_put number c.args.child.now c.args.self.now (c.are_known_settled.ensures c.if-are_known_settled.true) (c.is_known_settled.ensures h)
