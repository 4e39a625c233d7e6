use Rattle.std.proofs.Common.{◌-◌, [], ◌∷◌, ◌++◌, length, ap, ◌∙◌, arith}
use Rattle.seat_board.proofs.Acting.{does_act, goes_from}
use Rattle.seat_board.proofs.desk.act.Goals as goal

pub returns-clause-ok : goal.returns-clause-ok
returns-clause-ok c =
    let after = ap length c.history.ensures.is in
    let before = ap length c.history-before.ensures.is in
    does_act
    c.args.seat
    c.args.done
    c.args.board.now
    c.take_in.new.board
    c.go_on.new.board
    c.args.turns.now.items
    c.push_reserved.new.self.items
    c.in_ok-turn.turn
    (length c.history.result.now - length c.history-before.result.now)
    c.jobs_go_on.ensures.apart
    c.take_in.ensures
    c.jobs_go_on-2.ensures.sound
    c.jobs_go_on-2.ensures.run
    (goes_from c.args.seat c.args.done c.take_in.new.board c.go_on.new.board c.in_ok-turn.turn c.is_some-taken.result c.is_some-taken.ensures c.in_ok-turn.ensures.ok)
    (omega (arith, after, before))
    (c.push_reserved.ensures.items ∙ ap (λ l. l ++ record { seat = c.args.seat; entries = length c.history.result.now - length c.history-before.result.now } ∷ []) c.reserve.ensures.items)
