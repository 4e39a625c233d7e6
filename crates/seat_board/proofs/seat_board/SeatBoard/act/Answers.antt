use Rattle.seat_board.proofs.Acting.{acts_on}
use Rattle.seat_board.proofs.seat_board.SeatBoard.act.Goals as goal

pub returns-clause-turn : goal.returns-clause-turn
returns-clause-turn c found it =
    acts_on c.args.number c.args.done c.turn-turn.result found c.slot_mut-desk.result.now c.turn-turn.new.self c.has_more-more.new.self c.args.pass.now.seat.me.1 it c.slot_mut-desk.ensures.value c.turn-turn.ensures.ok c.turn-turn.ensures.err c.has_more-more.ensures
