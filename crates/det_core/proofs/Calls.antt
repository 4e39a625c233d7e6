-- A call that is next may meet its child and be paid for.
use Rattle.std.proofs.Common.{◌≡◌, ℕ, sym, subst}
use Rattle.call_model.specs.declared.Call.{Call}
use Rattle.space_model.specs.Space.{Top}
use Rattle.space_model.specs.Change.{after_payment}
use Rattle.space_model.specs.Meeting.{MayMeet}
use Rattle.space_model.specs.Event.{MayPay}
use Rattle.space_model.proofs.Next.{next_meets}
use Rattle.space_step.specs.declared.event.Next.{Next}
use Rattle.space_step.specs.declared.event.Next.TheVariants.{Meet}
use Rattle.space_step.specs.Steps.{Answers, IsNext}

pub may_meet : (levels : ℕ) (a : Next) (k : Call) (old new : Top) → a ≡ Meet k → Answers levels a old new → MayMeet levels k × MayPay new
may_meet levels a k old new e h =
    let told : Answers levels (Meet k) old new = subst (λ (x : Next). Answers levels x old new) e h in
    let call = next_meets levels old k (after_payment old old) told.0 in
    (call.may, subst MayPay (sym told.1) call.pays)

pub may_meet_next : (levels : ℕ) (a : Next) (k : Call) (t : Top) → a ≡ Meet k → IsNext levels a t → MayMeet levels k × MayPay t
may_meet_next levels a k t e h =
    let told : IsNext levels (Meet k) t = subst (λ (x : Next). IsNext levels x t) e h in
    let call = next_meets levels t k (after_payment t t) told in
    (call.may, call.pays)
