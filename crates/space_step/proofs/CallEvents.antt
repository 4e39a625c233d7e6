-- What is next of a space at whose pc an ECALL stands, by what it does.
use Rattle.std.proofs.Common.{◌≡◌, ℕ, ◌-◌, ◌≤◌, Bool, cond, Some, None, Ok, refl, ap, ◌∙◌, arith}
use Rattle.std.specs.Prelude.{Result, Err, IfOk, OnErr}
use Rattle.instruction_model.specs.Outcome.{calls, view_of, outcome}
use Rattle.call_model.specs.Calls.{read}
use Rattle.space_model.specs.Sound.{has_devices}
use Rattle.space_model.specs.Space.{Top}
use Rattle.space_model.specs.Change.{after_spending, after_payment}
use Rattle.space_model.specs.declared.FileAnswer.{FileAnswer}
use Rattle.space_model.specs.declared.FileAnswer.TheVariants.{Done, Refused, Fault}
use Rattle.space_model.specs.Files.{FileResult}
use Rattle.space_model.specs.Event.{charge, by_reading, after_outcome, after_answer, after_file_call, next, MayPay}
use Rattle.space_step.specs.declared.event.Next.{Next}
use Rattle.space_step.specs.declared.event.Next.TheVariants as answers
use Rattle.space_step.specs.Steps.{Acts, Answers, IsLocal, IsNextLocal}
use Rattle.space_step.specs.Stretch.{is_call}
use Rattle.space_step.proofs.Answers.{call_is_next}
use Rattle.space_step.proofs.Events.{next_pays}

-- the effect of the call is next
next_of_call : (levels depth : ℕ) (t : Top) → MayPay t → 8 - levels ≡ depth → outcome (view_of t.memory) t.registers ≡ calls
    → next levels t ≡ charge t (by_reading t (read t.registers.x (has_devices t.devices) depth))
next_of_call levels depth t may at is =
    next_pays levels t may
    ∙ ap (λ o. charge t (after_outcome levels t o)) is
    ∙ ap (λ (d : ℕ). charge t (by_reading t (read t.registers.x (has_devices t.devices) d))) at

-- a call that was done, or one that is left to do
call_answers : (depth : ℕ) (t u : Top) (n : Next) → MayPay t → depth ≤ 8 → outcome (view_of t.memory) t.registers ≡ calls
    → Acts (by_reading t (read t.registers.x (has_devices t.devices) depth)) n t u → Answers (8 - depth) n t u
call_answers depth t u answers.Local may low is h = next_of_call (8 - depth) depth t may (omega arith) is ∙ h
call_answers depth t u (answers.Meet k) may low is h = (next_of_call (8 - depth) depth t may (omega arith) is ∙ ap (charge t) h.0, h.1)
call_answers depth t u answers.Stopped may low is h = absurd h

pub call_done : {E : Type 0} (depth : ℕ) (t u : Top) (r : Result Bool E) (n : Next) → MayPay t → depth ≤ 8 → outcome (view_of t.memory) t.registers ≡ calls
    → IfOk r (λ left. Acts (by_reading t (read t.registers.x (has_devices t.devices) depth)) (cond left n answers.Local) t u) → IfOk r (λ left. Answers (8 - depth) (cond left n answers.Local) t u)
call_done depth t u (Ok left) n may low is h = call_answers depth t u (cond left n answers.Local) may low is h
call_done depth t u (Err e) n may low is h = tt

-- one for which there was no memory is a local event
pub call_wanting : {E : Type 0} (depth : ℕ) (t : Top) (r : Result Bool E) → MayPay t → depth ≤ 8 → outcome (view_of t.memory) t.registers ≡ calls
    → OnErr r (IsLocal (by_reading t (read t.registers.x (has_devices t.devices) depth))) → OnErr r (IsNextLocal (8 - depth) t)
call_wanting depth t (Ok v) may low is h = tt
call_wanting depth t (Err e) may low is h = call_is_next (8 - depth) depth t answers.Local may (omega arith) (ap is_call is) h

-- an answer of a call on a file, paid for before it is told
answer_paid : (a : FileAnswer) (t : Top) → after_answer a (after_payment t t) ≡ after_payment t (after_answer a t)
answer_paid (Done None) t = refl
answer_paid (Done (Some n)) t = refl
answer_paid (Refused error) t = refl
answer_paid (Fault r) t = refl

pub file_answered : (t v w u : Top) (r : FileResult) (a : FileAnswer) → v ≡ record t { memory = r.memory } → w ≡ after_spending 1 v v → a ≡ r.answer → u ≡ after_answer a w
    → u ≡ after_payment t (after_file_call r t)
file_answered t v w u r a changed paid answered told =
    told ∙ ap (after_answer a) (paid ∙ ap (λ x. after_payment x x) changed) ∙ answer_paid a (record t { memory = r.memory })
    ∙ ap (λ b. after_payment t (after_answer b (record t { memory = r.memory }))) answered
