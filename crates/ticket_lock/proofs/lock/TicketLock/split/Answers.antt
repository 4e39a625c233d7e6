use Rattle.std.proofs.Common.{rules}
use Rattle.ticket_lock.proofs.Calls.{splits_by}
use Rattle.ticket_lock.proofs.lock.TicketLock.split.Goals as goal

pub split_seat-seat-requires : goal.split_seat-seat-requires
split_seat-seat-requires g c = (c.requires.pass, search rules, splits_by g.K.Custody.fits g.K.Custody.lives _ _ _ _ c.requires.idle.0 c.requires.idle.1)
