use Rattle.std.proofs.Common.{◌≡◌, true, false, arith, sym, ◌∙◌, subst}
use Rattle.instruction_model.specs.Outcome.{outcome, view_of}
use Rattle.space_model.specs.Space.{Top}
use Rattle.space_step.specs.Stretch.{is_call}
use Rattle.space_step.proofs.Answers.{no_call_is_next, call_is_next}
use Rattle.space_step.proofs.BudgetPays.{no_budget_stops, budget_may_pay}
use Rattle.space_step.proofs.peeking.peek_running.Goals as goal

pub returns-then-budget-eq0 : goal.returns-then-budget-eq0
returns-then-budget-eq0 c =
    (_, no_budget_stops _ _ 1 c.requires.running (omega arith) (sym c.budget.ensures ∙ c.if-budget-eq0.true))

pub returns-then-not-is_at_call : goal.returns-then-not-is_at_call
returns-then-not-is_at_call c =
    no_call_is_next _ c.args.top.now (budget_may_pay c.args.top.now 1 c.requires.running (λ e. c.if-budget-eq0.false (c.budget.ensures ∙ e)))
    (subst (λ (t : Top). is_call (outcome (view_of t.memory) t.registers) ≡ false) c.top.view_is (sym c.is_at_call.ensures ∙ c.if-not-is_at_call.true))

pub returns : goal.returns
returns c =
    call_is_next _ c.args.depth c.args.top.now _ (budget_may_pay c.args.top.now 1 c.requires.running (λ e. c.if-budget-eq0.false (c.budget.ensures ∙ e))) (omega arith)
    (subst (λ (t : Top). is_call (outcome (view_of t.memory) t.registers) ≡ true) c.top.view_is (sym c.is_at_call.ensures ∙ c.if-not-is_at_call.false))
    c.answer_to_call.ensures
