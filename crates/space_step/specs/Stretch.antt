-- A stretch of instructions of one space, none of which is a call or a trap, over its registers and its memory alone.
-- Our choice: a restatement for proofs.
use Rattle.std.specs.Prelude.{◌≡◌, ℕ, zero, suc, ◌≤◌, ◌<◌, ◌==◌, min, IfSome, Bool, true, false, Option, Some, None, if◌then◌else◌}
use Rattle.memory_model.specs.Memory.{Memory, with_number}
use Rattle.instruction_model.specs.Outcome.{Registers, Outcome, goes, stores, calls, traps, view_of, outcome}
use Rattle.space_model.specs.declared.Cause.{Cause}
use Rattle.space_model.specs.declared.Cause.TheVariants.{Limit, Fuel}
use Rattle.space_model.specs.Space.{Top}
use Rattle.space_step.specs.declared.stretch.End.{End}
use Rattle.space_step.specs.declared.stretch.End.TheVariants as ends

abbrev pub is_call : Outcome → Bool
is_call (goes r) = false
is_call (stores r at width value) = false
is_call calls = true
is_call (traps number value) = false

abbrev pub is_store : Outcome → Bool
is_store (goes r) = false
is_store (stores r at width value) = true
is_store calls = false
is_store (traps number value) = false

-- an instruction has this outcome: registers and memory before and after it
abbrev pub IsDone : Outcome → Memory → Registers → Memory → Type 0
IsDone (goes r) m s n = (s ≡ r) × (n ≡ m)
IsDone (stores r at width value) m s n = (s ≡ r) × (n ≡ with_number m at width value)
IsDone calls m s n = ⊥
IsDone (traps number value) m s n = ⊥

-- registers and memory before and after so many instructions
abbrev pub Executes : ℕ → Registers → Memory → Registers → Memory → Type 0
Executes zero r m s n = (s ≡ r) × (n ≡ m)
Executes (suc count) r m s n = (q : Registers) × (k : Memory) × Executes count r m q k × IsDone (outcome (view_of k) q) k s n

-- why a stretch of so many instructions, which might have been so many, has ended before an instruction of this outcome
abbrev pub Ends : End → ℕ → ℕ → Outcome → Type 0
Ends ends.Budget count budget o = count ≡ budget
Ends ends.Call count budget o = (count < budget) × (o ≡ calls)
Ends (ends.Trap number value) count budget o = (count < budget) × (o ≡ traps number value)
Ends ends.Memory count budget o = (count < budget) × (is_store o ≡ true)

abbrev pub within_limit : Option ℕ → ℕ → ℕ
within_limit None n = n
within_limit (Some k) n = min n k

-- for how many events a space may pay, of so many
abbrev pub budget : Top → ℕ → ℕ
budget t quantum = within_limit t.limit (min quantum t.fuel)

-- a space can pay for so many events
pub record Pays (n : ℕ) (t : Top) : Type 0 where
  pub fuel : n ≤ t.fuel
  pub limit : IfSome t.limit (λ k. n ≤ k)

-- why a space that may pay for none stops
abbrev pub shortage : Top → Cause
shortage t = if t.fuel == 0 then Fuel else Limit
