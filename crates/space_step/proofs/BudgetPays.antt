-- What a budget pays for.
use Rattle.std.proofs.Common.{◌≡◌, ℕ, ◌≤◌, ◌<◌, ◌==◌, Bool, true, false, if◌then◌else◌, min, Option, Some, None, refl, ap, arith}
use Rattle.std.specs.Prelude.{IfSome}
use Rattle.std.proofs.lemmas.Bool.Decides.{nat_tests}
use Rattle.space_model.specs.declared.Cause.TheVariants.{Limit, Fuel}
use Rattle.space_model.specs.declared.Status.TheVariants.{Running}
use Rattle.space_model.specs.Space.{Top}
use Rattle.space_model.specs.Change.{stop}
use Rattle.space_model.specs.Event.{next, moves, MayPay}
use Rattle.space_step.specs.Stretch.{Pays, budget, within_limit, shortage}
use Rattle.space_step.proofs.Events.{next_without_fuel, next_without_limit}

within_limit_is_within : (o : Option ℕ) (n : ℕ) → within_limit o n ≤ n
within_limit_is_within None n = omega arith
within_limit_is_within (Some k) n = omega arith

within_limit_keeps : (o : Option ℕ) (n : ℕ) → IfSome o (λ k. within_limit o n ≤ k)
within_limit_keeps None n = tt
within_limit_keeps (Some k) n = omega arith

pub budget_within : (t : Top) (quantum : ℕ) → budget t quantum ≤ quantum
budget_within t quantum = omega (arith, within_limit_is_within t.limit (min quantum t.fuel))

pub budget_pays : (t : Top) (quantum : ℕ) → Pays (budget t quantum) t
budget_pays t quantum = record { fuel = omega (arith, within_limit_is_within t.limit (min quantum t.fuel)); limit = within_limit_keeps t.limit (min quantum t.fuel) }

more_than_none : (o : Option ℕ) (n : ℕ) → 0 < n → IfSome o (λ k. n ≤ k) → o ≡ Some 0 → ⊥
more_than_none None n h k e = cc
more_than_none (Some m) n h k e = let z : m ≡ 0 = cc in absurd (omega arith)

pub pays_for_one : (t : Top) (n : ℕ) → t.status ≡ Running → 0 < n → Pays n t → MayPay t
pays_for_one t n running h p = record { running = running; fuel = omega (arith, p.fuel); limit = more_than_none t.limit n h p.limit }

pub budget_may_pay : (t : Top) (quantum : ℕ) → t.status ≡ Running → (budget t quantum ≡ 0 → ⊥) → MayPay t
budget_may_pay t quantum running h = pays_for_one t (budget t quantum) running (grind arith) (budget_pays t quantum)

no_limit_left : (o : Option ℕ) (n : ℕ) → 0 < n → within_limit o n ≡ 0 → o ≡ Some 0
no_limit_left None n h e = absurd (omega arith)
no_limit_left (Some k) n h e = ap Some (omega arith)

by_fuel : (levels : ℕ) (t : Top) (quantum : ℕ) → t.status ≡ Running → 1 ≤ quantum → budget t quantum ≡ 0 → (b : Bool) → (t.fuel == 0) ≡ b
    → next levels t ≡ moves (stop t (if b then Fuel else Limit) 0)
by_fuel levels t quantum running h e true is = next_without_fuel levels t running (grind (arith, nat_tests))
by_fuel levels t quantum running h e false is =
    let some : 0 < t.fuel = grind (arith, nat_tests) in
    next_without_limit levels t running some (no_limit_left t.limit (min quantum t.fuel) (omega arith) e)

-- a space that can pay for none stops
pub no_budget_stops : (levels : ℕ) (t : Top) (quantum : ℕ) → t.status ≡ Running → 1 ≤ quantum → budget t quantum ≡ 0 → next levels t ≡ moves (stop t (shortage t) 0)
no_budget_stops levels t quantum running h e = by_fuel levels t quantum running h e (t.fuel == 0) refl
