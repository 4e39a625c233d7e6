use Rattle.std.proofs.Common.{◌≡◌}
use Rattle.ticket_lock.specs.Passes.{IsWaiting}
use Rattle.ticket_lock.proofs.lock.TicketLock.wait.Given as goal

abbrev pub invariant-loop : goal.invariant-loop
invariant-loop g l = (l.pass.seat.table_id ≡ l.initial.pass.seat.table_id) × (l.pass.seat.id ≡ l.initial.pass.seat.id) × (l.pass.seat.me.0.core ≡ l.initial.pass.seat.me.0.core) × IsWaiting l.ticket l.pass.seat.me
