-- Local events of a space whose output is put where it is taken from, behind what is there already, until there is enough.
-- Our choice: a restatement for callers that write a console while its space runs.
use Rattle.std.specs.Prelude.{◌≡◌, ℕ, suc, ◌+◌, ◌^◌, ◌≤◌, ◌<◌, ◌⊎◌, List, ◌++◌, length, Option, Some}
use Rattle.memory_model.specs.Memory.{bytes_from}
use Rattle.call_model.specs.Calls.{argument}
use Rattle.space_model.specs.Space.{Top}
use Rattle.space_model.specs.Event.{next, moves, Follows}
use Rattle.run_model.specs.Console.{console_in}
use Rattle.space_step.specs.declared.event.Next.{Next}
use Rattle.space_step.specs.declared.event.Next.TheVariants.{Local}
use Rattle.space_step.specs.declared.event.Advance.{Advance}
use Rattle.space_step.specs.Running.{IsBlocked}

-- the range that a1 and a2 name
abbrev pub named_from : Top → ℕ
named_from t = argument t.registers.x 1

abbrev pub named_length : Top → ℕ
named_length t = argument t.registers.x 2

abbrev pub named_bytes : Top → List ℕ
named_bytes t = bytes_from t.memory (named_from t) (named_length t)

-- an event has written nothing to the console, or what a1 and a2 still name
abbrev pub IsTold : Top → Top → Type 0
IsTold old new = (console_in new ≡ console_in old) ⊎ ((named_from new + named_length new ≤ 2 ^ 32) × (console_in new ≡ console_in old ++ named_bytes new))

-- the last event happened where fewer bytes than enough were ready
pub record Last (levels enough before : ℕ) (ready : List ℕ) (old new : Top) : Type 0 where
  pub top : Top
  pub early : List ℕ
  pub follows : Follows levels before old top
  pub console : console_in top ≡ console_in old ++ early
  pub few : length (ready ++ early) < enough
  pub last : next levels top ≡ moves new

-- so many local events: what they wrote to the console stands behind what was ready, and none of them happened where there was enough
pub record GoesWithOutput (levels enough ran : ℕ) (ready output : List ℕ) (old new : Top) : Type 0 where
  pub follows : Follows levels ran old new
  pub written : List ℕ
  pub console : console_in new ≡ console_in old ++ written
  pub appended : output ≡ ready ++ written
  pub last : (before : ℕ) → ran ≡ suc before → Last levels enough before ready old new

-- why there were so many events, where there might have been so many: fewer only where enough is ready, or where something blocks
abbrev pub EndedWithOutput : ℕ → ℕ → ℕ → ℕ → Option Next → List ℕ → Top → Type 0
EndedWithOutput levels quantum enough ran (Some Local) output t = (1 ≤ ran) × (ran ≤ quantum) × (ran < quantum → enough ≤ length output)
EndedWithOutput levels quantum enough ran other output t = (ran < quantum) × IsBlocked levels other t

pub record AdvancesWithOutput (levels quantum enough : ℕ) (a : Advance) (ready output : List ℕ) (old new : Top) : Type 0 where
  pub goes : GoesWithOutput levels enough a.ran ready output old new
  pub ended : EndedWithOutput levels quantum enough a.ran a.next output new
