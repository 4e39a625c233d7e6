use Rattle.space_step.proofs.Following.{trap_happens}
use Rattle.space_step.proofs.running.trap.Goals as goal

pub returns-clause-next : goal.returns-clause-next
returns-clause-next c = λ levels.
    rw (c.trap.ensures, c.cause_of.ensures, c.from.ensures)
    (trap_happens levels c.args.number c.args.value c.args.top.now c.requires.may_pay c.requires.traps)
