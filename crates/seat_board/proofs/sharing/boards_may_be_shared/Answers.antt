use Rattle.std.proofs.Common.{rules}
use Rattle.seat_board.proofs.sharing.boards_may_be_shared.Goals as goal

pub may_be_sent-requires-3-send-T : goal.may_be_sent-requires-3-send-T
may_be_sent-requires-3-send-T c κs = record {
  owned = λ x v y. ((λ w. (tt, (c.may_be_sent.ensures.owned y.0.board w.0, (c.may_be_sent-2.ensures.owned y.0.turns w.1.0, (search rules, tt))))), record {});
  leaving = λ k x w. search rules;
}
