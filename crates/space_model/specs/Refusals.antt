-- What stops the caller of a call before the call has done anything: its tests in their order, each with what it stops the caller for, where it
-- does. The first counts.
-- Our choice: causes and values.
use Rattle.std.specs.Prelude.{ℕ, List, [], ◌∷◌, Option, Some, None, option_map, Bool}
use Rattle.memory_model.specs.Memory.{first_without}
use Rattle.space_model.specs.declared.Cause.{Cause}
use Rattle.space_model.specs.declared.Refusal.{Refusal}

-- the first that stops the caller
abbrev pub first_refusal : List (Option Refusal) → Option Refusal
first_refusal [] = None
first_refusal (None ∷ others) = first_refusal others
first_refusal (Some r ∷ others) = Some r

-- the least of `len` addresses from `addr` on that lacks a right
abbrev pub access_refusal : Cause → (ℕ → Bool) → ℕ → ℕ → Option Refusal
access_refusal cause right addr len = option_map (λ a. record { cause = cause; value = a }) (first_without right addr len)
