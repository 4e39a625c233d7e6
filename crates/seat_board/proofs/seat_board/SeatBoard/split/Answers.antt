use Rattle.seat_board.proofs.Joins.{may_part}
use Rattle.seat_board.proofs.seat_board.SeatBoard.split.Goals as goal

pub split-other-requires-clause-idle : goal.split-other-requires-clause-idle
split-other-requires-clause-idle c =
    let p = c.args.pass.now in
    (record { ticket = p.no_ticket; lacks = p.lacks; none = p.none }, may_part p.pass.seat.id p.pass.seat.me.0.core c.requires.first.0 p.lives c.requires.first.1)
