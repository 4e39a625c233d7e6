use Rattle.atomic_table.specs.Table.{step, Me}
use mathlib.Core.Option.{none}
use Rattle.std.proofs.Common.{rules, [], ap, refl}
use Rattle.ticket_lock.proofs.Calls.{ends_by}
use Rattle.ticket_lock.proofs.lock.TicketLock.give.Goals as goal

pub fetch_add-ended-requires : goal.fetch_add-ended-requires
fetch_add-ended-requires g c = let t = c.requires.turn in (search rules, search rules, ends_by g.K.Custody.fits g.K.Custody.lives g.K.Custody.after _ _ _ t.0 t.1 (step c.args.self.now.table.shared.table_id.slots 1 1 0 none) t.2 t.3)

pub returns-clause-pass : goal.returns-clause-pass
returns-clause-pass g c = let t = c.requires.turn in let turn = t.2 in let new = c.fetch_add-ended.ensures.2.1 t.0 t.1 [] turn.noted turn.it in (c.fetch_add-ended.ensures.0, c.fetch_add-ended.ensures.1, ap (λ (m : Me _ _). m.0.noted) new)

pub returns-clause-idle : goal.returns-clause-idle
returns-clause-idle g c = let t = c.requires.turn in let turn = t.2 in let new = c.fetch_add-ended.ensures.2.1 t.0 t.1 [] turn.noted turn.it in
    record { ticket = ap (λ (m : Me _ _). m.0.ticket) new; lacks = ap (λ (m : Me _ _). m.0.has) new; none = ap (λ (m : Me _ _). m.1) new }

pub returns-clause-core : goal.returns-clause-core
returns-clause-core g c found value turn = ap (λ (m : Me _ _). m.0.core) (c.fetch_add-ended.ensures.2.1 found value [] turn.noted turn.it)

pub returns-clause-next : goal.returns-clause-next
returns-clause-next g c = record { before = c.fetch_add-ended.result; ticket = c.fetch_add-ended.ensures.2.0; follows = search rules }
