use Rattle.std.proofs.Common.{rules}
use Rattle.ticket_lock.proofs.Calls.{joins_by}
use Rattle.ticket_lock.proofs.lock.TicketLock.join.Goals as goal

pub join_seat-requires : goal.join_seat-requires
join_seat-requires g c = let too = c.requires.idle.1 in (c.requires.pass.0, c.requires.pass.1, too.none, search rules, joins_by g.K.Custody.fits g.K.Custody.lives _ _ _ _ _ _ c.requires.idle.0 c.requires.idle.1 c.requires.fits)
