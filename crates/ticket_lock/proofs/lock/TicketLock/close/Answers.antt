use Rattle.ticket_lock.proofs.Calls.{closes_by}
use Rattle.ticket_lock.proofs.lock.TicketLock.close.Goals as goal

pub returns : goal.returns
returns g c = closes_by g.K.Custody.fits g.K.Custody.lives _ _ _ _ _ c.requires.last.0 c.requires.last.1 c.close_with-closed.ensures.values.2 c.take-value.ensures.value
