use Rattle.std.proofs.Common.{rules, arith, ◌≡◌, ℕ, ◌+◌, ◌%◌}
use mathlib.Core.Option.{none}
use Rattle.atomic_table.specs.Table.{step}
use Rattle.ticket_lock.proofs.Turns.{may_sleep}
use Rattle.ticket_lock.proofs.lock.TicketLock.count_out.Goals as goal

pub fetch_sub-requires : goal.fetch_sub-requires
fetch_sub-requires g c = (search rules, search rules, may_sleep g.K.Custody.fits g.K.Custody.lives _ _ 2 _ (λ n. (n + 18446744073709551615) % 18446744073709551616) (step c.args.self.now.table.shared.table_id.slots 2 1 0 none) (omega arith))
