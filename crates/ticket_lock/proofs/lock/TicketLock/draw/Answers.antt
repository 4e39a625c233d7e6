use Rattle.atomic_table.specs.Table.{step}
use mathlib.Core.Option.{none}
use Rattle.std.proofs.Common.{rules}
use Rattle.ticket_lock.proofs.Calls.{draws_by}
use Rattle.ticket_lock.proofs.lock.TicketLock.draw.Goals as goal

pub fetch_add-requires : goal.fetch_add-requires
fetch_add-requires g c = (search rules, search rules, draws_by g.K.Custody.fits g.K.Custody.lives g.K.Custody.few _ _ _ (step c.args.self.now.table.shared.table_id.slots 0 1 0 none) c.requires.idle.0 c.requires.idle.1)
