use Rattle.std.proofs.Common.{replicate, ◌++◌, ◌∷◌, [], sym, ap, ◌∙◌, subst}
use Rattle.atomic_table.specs.Table.{opening}
use Rattle.ticket_lock.specs.Rule.{Holds}
use Rattle.ticket_lock.specs.Plays.{fresh}
use Rattle.ticket_lock.proofs.Joins.{opens}
use Rattle.ticket_lock.proofs.lock.TicketLock.new.Goals as goal

pub new-requires : goal.new-requires
new-requires g c = subst (λ xs. Holds g.K.Custody.fits g.K.Custody.lives (opening (replicate 67 0) xs (fresh (g.K.Opening.first c.args.about.now)))) (sym (c.in_ok-push.ensures.items ∙ ap (λ l. l ++ c.args.value ∷ []) c.new-slots.ensures.items)) (opens g.K.Custody.fits g.K.Custody.lives (replicate 65 0) (c.args.value) (g.K.Opening.first c.args.about.now) c.requires)
