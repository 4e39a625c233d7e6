use Rattle.std.proofs.Common.{sym, ap, ◌∙◌}
use Rattle.space_model.specs.Event.{moves}
use Rattle.space_step.proofs.Events.{stopped_rests, not_stopped_runs}
use Rattle.space_step.proofs.BudgetPays.{no_budget_stops}
use Rattle.space_step.proofs.Advancing.{resting_is_blocked, one_goes}
use Rattle.space_step.proofs.WithOutput.{one_writes}
use Rattle.space_step.proofs.running.proceed.Goals as goal

pub returns-then-is_stopped-clause-goes : goal.returns-then-is_stopped-clause-goes
returns-then-is_stopped-clause-goes g c =
    resting_is_blocked _ _ c.args.top.now c.requires.quantum (stopped_rests _ _ (sym c.is_stopped.ensures ∙ c.if-is_stopped.true))

pub returns-then-budget-eq0-clause-goes : goal.returns-then-budget-eq0-clause-goes
returns-then-budget-eq0-clause-goes g c =
    one_goes _ _ _ _ c.requires.quantum
    (no_budget_stops _ c.args.top.now c.args.quantum (not_stopped_runs c.args.top.now (sym c.is_stopped.ensures ∙ c.if-is_stopped.false)) c.requires.quantum (sym c.budget-budget.ensures ∙ c.if-budget-eq0.true)
    ∙ ap moves (sym c.run_out.ensures))

pub returns-then-budget-eq0-clause-writes : goal.returns-then-budget-eq0-clause-writes
returns-then-budget-eq0-clause-writes g c =
    one_writes _ _ _
    (no_budget_stops _ c.args.top.now c.args.quantum (not_stopped_runs c.args.top.now (sym c.is_stopped.ensures ∙ c.if-is_stopped.false)) c.requires.quantum (sym c.budget-budget.ensures ∙ c.if-budget-eq0.true)
    ∙ ap moves (sym c.run_out.ensures))
