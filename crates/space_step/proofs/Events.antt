-- What is next of a space, by what it may pay.
use Rattle.std.proofs.Common.{◌≡◌, ℕ, zero, suc, ◌<◌, true, false, Option, Some, None, refl, ap, ◌∙◌, arith}
use Rattle.space_model.specs.declared.Cause.{Cause}
use Rattle.space_model.specs.declared.Cause.TheVariants.{Limit, Fuel}
use Rattle.space_model.specs.declared.Status.{Status}
use Rattle.space_model.specs.declared.Status.TheVariants.{Running, Stopped}
use Rattle.space_model.specs.Stop.{is_stopped}
use Rattle.space_model.specs.Space.{Top}
use Rattle.space_model.specs.Change.{stop}
use Rattle.space_model.specs.Event.{next, rests, moves, by_status, by_fuel_left, by_limit_left, charge, instruction, MayPay}

pub next_rests : (levels : ℕ) (t : Top) (cause : Cause) (value : ℕ) → t.status ≡ Stopped cause value → next levels t ≡ rests
unfolding next
next_rests levels t cause value e = ap (by_status levels t) e

pub next_runs : (levels : ℕ) (t : Top) → t.status ≡ Running → next levels t ≡ by_fuel_left levels t t.fuel
unfolding next
next_runs levels t e = ap (by_status levels t) e

pub next_without_fuel : (levels : ℕ) (t : Top) → t.status ≡ Running → t.fuel ≡ 0 → next levels t ≡ moves (stop t Fuel 0)
next_without_fuel levels t running e = next_runs levels t running ∙ ap (by_fuel_left levels t) e

by_fuel : (levels : ℕ) (t : Top) (n : ℕ) → 0 < n → by_fuel_left levels t n ≡ by_limit_left levels t t.limit
by_fuel levels t zero h = absurd (omega arith)
by_fuel levels t (suc n) h = refl

pub next_with_fuel : (levels : ℕ) (t : Top) → t.status ≡ Running → 0 < t.fuel → next levels t ≡ by_limit_left levels t t.limit
next_with_fuel levels t running h = next_runs levels t running ∙ by_fuel levels t t.fuel h

pub next_without_limit : (levels : ℕ) (t : Top) → t.status ≡ Running → 0 < t.fuel → t.limit ≡ Some 0 → next levels t ≡ moves (stop t Limit 0)
next_without_limit levels t running h e = next_with_fuel levels t running h ∙ ap (by_limit_left levels t) e

by_limit : (levels : ℕ) (t : Top) (o : Option ℕ) → (o ≡ Some 0 → ⊥) → by_limit_left levels t o ≡ charge t (instruction levels t)
by_limit levels t (Some zero) h = absurd (h refl)
by_limit levels t (Some (suc n)) h = refl
by_limit levels t None h = refl

-- the instruction at pc is next
pub next_pays : (levels : ℕ) (t : Top) → MayPay t → next levels t ≡ charge t (instruction levels t)
next_pays levels t may = next_with_fuel levels t may.running may.fuel ∙ by_limit levels t t.limit may.limit

rests_by : (levels : ℕ) (t : Top) (s : Status) → is_stopped s ≡ true → by_status levels t s ≡ rests
rests_by levels t Running e = cc
rests_by levels t (Stopped cause value) e = refl

pub stopped_rests : (levels : ℕ) (t : Top) → is_stopped t.status ≡ true → next levels t ≡ rests
unfolding next
stopped_rests levels t e = rests_by levels t t.status e

runs_by : (s : Status) → is_stopped s ≡ false → s ≡ Running
runs_by Running e = refl
runs_by (Stopped cause value) e = cc

pub not_stopped_runs : (t : Top) → is_stopped t.status ≡ false → t.status ≡ Running
not_stopped_runs t e = runs_by t.status e
