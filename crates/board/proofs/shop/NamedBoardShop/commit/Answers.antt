use Rattle.board.proofs.Turns.{hands_in_accepts}
use Rattle.board.proofs.shop.NamedBoardShop.commit.Goals as goal

pub returns-clause-accepted : goal.returns-clause-accepted
returns-clause-accepted g c = hands_in_accepts c.args.self.now c.hand_in.new.self c.args.done.done c.hand_in.result c.hand_in.ensures.is
