use Rattle.std.proofs.Common.{rules}
use Rattle.board.proofs.together.NamedBoardSent.may_be_sent.Goals as goal

pub may_be_sent-requires-4-send-T : goal.may_be_sent-requires-4-send-T
may_be_sent-requires-4-send-T g c κs within = record {
  owned = λ x v y. ((λ w. (tt, (c.may_be_sent.ensures.owned y.0.board w.0, (c.may_be_sent-2.ensures.owned y.0.names w.1.0, (c.may_be_sent-3.ensures.owned y.0.starts w.1.1.0, tt))))), record {});
  leaving = λ k x w. search rules;
}
