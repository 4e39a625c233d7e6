use Rattle.atomic_table.specs.Table.{step, Me}
use Rattle.ticket_lock.specs.Plays.{IsKnown}
use mathlib.Core.Option.{none}
use Rattle.std.proofs.Common.{rules, ◌∷◌, Some, sym, ap, ◌∙◌, subst}
use Rattle.ticket_lock.proofs.Calls.{looks_by}
use Rattle.ticket_lock.proofs.lock.TicketLock.look.Goals as goal

pub load-requires : goal.load-requires
load-requires g c = (search rules, search rules, looks_by g.K.Custody.fits g.K.Custody.lives _ _ _ c.args.ticket (step c.args.self.now.table.shared.table_id.slots 1 0 0 none) c.requires.waits)

pub returns-clause-turn : goal.returns-clause-turn
returns-clause-turn g c same =
    let told = c.load.ensures.2.0 (c.requires.waits.ticket ∙ ap Some (sym same)) in
    let slot = told.0 in
    let new = told.1 in (
      slot,
      record { has = ap (λ (m : Me _ _). m.0.has) new; noted = ap (λ (m : Me _ _). m.0.noted) new; it = ap (λ (m : Me _ _). m.1) new ∙ ap (λ l. (0, slot) ∷ l) c.requires.waits.none },
      subst (λ core. IsKnown g.K.Custody.fits core slot) (ap (λ (m : Me _ _). m.0.core) (sym new)) told.2,
    )
