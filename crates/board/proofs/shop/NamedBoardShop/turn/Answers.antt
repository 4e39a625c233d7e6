use Rattle.std.proofs.lemmas.Result.{IfOk-weaker}
use Rattle.board.proofs.Turns.{named_accepts, named_idles}
use Rattle.board.proofs.shop.NamedBoardShop.turn.Goals as goal

pub returns-clause-accepted : goal.returns-clause-accepted
returns-clause-accepted g c = named_accepts (λ named. named.job) c.args.worker c.args.self.now c.next_turn.new.self c.next_turn.result c.next_turn.ensures.is c.next_turn.ensures.err

pub returns-clause-idle : goal.returns-clause-idle
returns-clause-idle g c = IfOk-weaker c.next_turn.result _ _ (λ t is. named_idles (λ named. named.job) c.args.worker c.args.self.now c.next_turn.new.self t is) c.next_turn.ensures.is
