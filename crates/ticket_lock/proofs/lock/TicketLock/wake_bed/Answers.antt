use Rattle.std.proofs.Common.{rules, arith, ◌≡◌, ℕ, ◌+◌, ◌%◌}
use mathlib.Core.Option.{none}
use Rattle.atomic_table.specs.Table.{step}
use Rattle.ticket_lock.proofs.Turns.{may_sleep}
use Rattle.ticket_lock.proofs.lock.TicketLock.wake_bed.Goals as goal

pub fetch_add-requires : goal.fetch_add-requires
fetch_add-requires g c = let low = c.requires.bed.0 in (search rules, search rules, may_sleep g.K.Custody.fits g.K.Custody.lives _ _ c.args.bed _ (λ n. (n + 1) % 18446744073709551616) (step c.args.self.now.table.shared.table_id.slots c.args.bed 1 0 none) (omega (arith, low)))
