use Rattle.seat_board.proofs.Joins.{may_take_in}
use Rattle.seat_board.proofs.seat_board.SeatBoard.join.Goals as goal

pub join-requires-clause-fits : goal.join-requires-clause-fits
join-requires-clause-fits c =
    let p = c.args.pass.now in
    let o = c.args.other in
    may_take_in p.pass.seat.id p.pass.seat.me.0.core o.pass.seat.id o.pass.seat.me.0.core c.requires.first p.lives o.lives c.requires.idle
