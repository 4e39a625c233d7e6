use Rattle.std.proofs.Common.{rules, ◌∙◌, refl, sym, ap, subst}
use Rattle.atomic_table.specs.Table.{Me}
use Rattle.ticket_lock.specs.Passes.{IsWaiting}
use Rattle.ticket_lock.proofs.lock.TicketLock.wait.Goals as goal

pub loop-init : goal.loop-init
loop-init g c = (refl, refl, refl, c.requires.waits)

pub look_again-now-requires-clause-pass : goal.look_again-now-requires-clause-pass
look_again-now-requires-clause-pass g c = c.loop.invariant.0 ∙ c.requires.pass

pub look_again-now-requires-clause-waits : goal.look_again-now-requires-clause-waits
look_again-now-requires-clause-waits g c = c.loop.invariant.3

pub returns-then-now-ticket-clause-pass : goal.returns-then-now-ticket-clause-pass
returns-then-now-ticket-clause-pass g c = let a = c.look_again-now.ensures.pass in let b = c.loop.invariant in (a.0 ∙ b.0, a.1 ∙ b.1, a.2 ∙ b.2)

pub loop-preserved : goal.loop-preserved
loop-preserved g c = let a = c.look_again-now.ensures.pass in let b = c.loop.invariant in (a.0 ∙ b.0, a.1 ∙ b.1, a.2 ∙ b.2, c.look_again-now.ensures.waits (search rules))
