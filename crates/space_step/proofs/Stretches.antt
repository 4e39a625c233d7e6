-- A stretch of instructions, one instruction after another.
use Rattle.std.proofs.Common.{◌≡◌, ℕ, ◌+◌, Bool, true, Ok, Err, refl, add-one}
use Rattle.std.specs.declared.alloc.AllocError.{AllocError}
use Rattle.memory_model.specs.Memory.{Memory, with_number}
use Rattle.instruction_model.specs.Outcome.{Registers, Outcome, goes, stores, calls, traps, view_of, outcome}
use Rattle.rv_exec.specs.declared.stepping.Stepped.TheVariants.{Next}
use Rattle.rv_exec.specs.Steps.{Steps}
use Rattle.space_step.specs.Stretch.{is_store, IsDone, Executes}

step_is_done : (takes : Bool) (o : Outcome) (r s : Registers) (m n : Memory) → Steps with_number takes o (Ok Next) r m s n → IsDone o m s n
step_is_done takes (goes t) r s m n h = h
step_is_done takes (stores t at width value) r s m n h = h
step_is_done takes calls r s m n h = absurd h
step_is_done takes (traps number value) r s m n h = absurd h

-- an instruction for which there was no memory is a store
pub wants_memory : (takes : Bool) (o : Outcome) (e : AllocError) (r s : Registers) (m n : Memory) → Steps with_number takes o (Err e) r m s n → is_store o ≡ true
wants_memory takes (goes t) e r s m n h = absurd h
wants_memory takes (stores t at width value) e r s m n h = refl
wants_memory takes calls e r s m n h = absurd h
wants_memory takes (traps number value) e r s m n h = absurd h

pub executes_more : (count : ℕ) (r q s : Registers) (m k n : Memory) (takes : Bool) → Executes count r m q k
    → Steps with_number takes (outcome (view_of k) q) (Ok Next) q k s n → Executes (count + 1) r m s n
executes_more count r q s m k n takes h step = rw add-one (q, k, h, step_is_done takes _ q s k n step)
