-- One local event of a space: one instruction, one trap, or one stop. The order of the tests is the order of the lines.
-- Source: OSDI 2010, "Efficient System-Enforced Deterministic Parallelism", the kernel interface: a trap is an implicit Ret.
-- Our choice: fuel in each space, and the order of the tests.
use Rattle.std.specs.Prelude.{◌≡◌, ℕ, zero, suc, ◌-◌, ◌<◌, Option, Some, None, Result, Ok, Err, List, [], ◌∷◌, ◌++◌, length, take, drop}
use Rattle.memory_model.specs.Memory.{may_read, may_write, bytes_from, first_without, with_bytes, with_number}
use Rattle.instruction_model.specs.Outcome.{view_of, Outcome, goes, stores, calls, traps, outcome}
use Rattle.call_model.specs.declared.Call.{Call}
use Rattle.call_model.specs.declared.Call.TheVariants as named
use Rattle.call_model.specs.declared.Badcall as refusal
use Rattle.call_model.specs.Limits.{greatest_depth}
use Rattle.call_model.specs.Calls.{read}
use Rattle.space_model.specs.declared.Status.{Status}
use Rattle.space_model.specs.declared.Status.TheVariants.{Running, Stopped}
use Rattle.space_model.specs.declared.Cause.TheVariants.{LoadFault, StoreFault, Badcall, Limit, Fuel, Ret}
use Rattle.space_model.specs.Stop.{cause_of}
use Rattle.device_model.specs.Devices.{Devices}
use Rattle.space_model.specs.Space.{Top}
use Rattle.space_model.specs.Sound.{has_devices}
use Rattle.space_model.specs.Change.{stop, after_success, after_error, with_count, after_payment}
use Rattle.space_model.specs.declared.FileAnswer.{FileAnswer}
use Rattle.space_model.specs.declared.FileAnswer.TheVariants.{Done, Refused, Fault}
use Rattle.file_model.specs.Operations.{error_number}
use Rattle.space_model.specs.Files.{FileResult, file_call}

-- what an event does, before what it costs
pub data Effect : Type 0 where
  becomes : Top → Effect
  asks : Call → Effect

-- what is next of a space: nothing, its own event, or a call of a top that has paid for it
pub data NextEvent : Type 0 where
  rests : NextEvent
  moves : Top → NextEvent
  meets : Call → Top → NextEvent

-- an event of t takes one unit of its fuel and of its limit
abbrev pub charge : Top → Effect → NextEvent
charge t (becomes u) = moves (after_payment t u)
charge t (asks k) = meets k (after_payment t t)

-- what a call of a device does; the tests on registers let it through where there are devices alone
abbrev pub with_devices : Top → Option Devices → (Devices → Effect) → Effect
with_devices t None effect = becomes (stop t Badcall 6)
with_devices t (Some d) effect = effect d

-- the bytes of a range are appended to the console
abbrev pub with_output : Top → Devices → List ℕ → Top
with_output t d bytes = record t { devices = Some (record d { console = d.console ++ bytes }) }

abbrev pub output : Top → Devices → ℕ → ℕ → Option ℕ → Effect
output t d addr len (Some a) = becomes (stop t LoadFault a)
output t d addr len None = becomes (after_success (with_output t d (bytes_from t.memory addr len)))

-- console out of a range, which has to be readable
abbrev pub console_out : Top → ℕ → ℕ → Devices → Effect
console_out t addr len d = output t d addr len (first_without (may_read t.memory) addr len)

-- the first bytes of the input that is left go into a buffer, and are counted
abbrev pub with_input : Top → Devices → ℕ → ℕ → Top
with_input t d addr len =
    with_count (length (take len d.input)) (record t { memory = with_bytes t.memory addr (take len d.input); devices = Some (record d { input = drop len d.input }) })

abbrev pub input : Top → Devices → ℕ → ℕ → Option ℕ → Effect
input t d addr len (Some a) = becomes (stop t StoreFault a)
input t d addr len None = becomes (after_success (with_input t d addr len))

-- console in into a buffer, all of which has to be writable
abbrev pub console_in : Top → ℕ → ℕ → Devices → Effect
console_in t addr len d = input t d addr len (first_without (may_write t.memory) addr len)

-- the next number of a device goes into a1, and the others are left; where there is none, a0 is 1 and a1 is 0
abbrev pub next_number : Top → List ℕ → (List ℕ → Devices) → Top
next_number t [] left = after_error 1 (with_count 0 t)
next_number t (n ∷ ns) left = after_success (with_count n (record t { devices = Some (left ns) }))

abbrev pub clock : Top → Devices → Effect
clock t d = becomes (next_number t d.clocks (λ ns. record d { clocks = ns }))

abbrev pub random : Top → Devices → Effect
random t d = becomes (next_number t d.numbers (λ ns. record d { numbers = ns }))

-- what a call on a file answers: a0, and a count in a1; or the trap of a byte that lacks a right
abbrev pub after_answer : FileAnswer → Top → Top
after_answer (Done None) t = after_success t
after_answer (Done (Some n)) t = after_success (with_count n t)
after_answer (Refused error) t = after_error (error_number error) t
after_answer (Fault r) t = stop t r.cause r.value

abbrev pub after_file_call : FileResult → Top → Top
after_file_call result t = after_answer result.answer (record t { memory = result.memory })

-- what a call does; one that meets children is asked for
abbrev pub effect_of : Top → Call → Effect
effect_of t (named.Ret value) = becomes (stop (after_success t) Ret value)
effect_of t (named.ConsoleOut addr len) = with_devices t t.devices (console_out t addr len)
effect_of t (named.ConsoleIn addr len) = with_devices t t.devices (console_in t addr len)
effect_of t named.Clock = with_devices t t.devices (clock t)
effect_of t named.Random = with_devices t t.devices (random t)
effect_of t (named.File call) = becomes (after_file_call (file_call call t.memory) t)
effect_of t call = asks call

-- what registers come to that name a call, or fail a test
abbrev pub by_reading : Top → Result Call refusal.Badcall → Effect
by_reading t (Err test) = becomes (stop t Badcall test.0)
by_reading t (Ok call) = effect_of t call

-- ECALL with so many levels of children left below: the call that the registers name, or the first test that they fail
abbrev pub call : ℕ → Top → Effect
call levels t = by_reading t (read t.registers.x (has_devices t.devices) (greatest_depth - levels))

abbrev pub after_outcome : ℕ → Top → Outcome → Effect
after_outcome levels t (goes r) = becomes (record t { registers = r })
after_outcome levels t (stores r at width value) = becomes (record t { registers = r; memory = with_number t.memory at width value })
after_outcome levels t calls = call levels t
after_outcome levels t (traps number value) = becomes (stop t (cause_of number) value)

abbrev pub instruction : ℕ → Top → Effect
instruction levels t = after_outcome levels t (outcome (view_of t.memory) t.registers)

abbrev pub by_limit_left : ℕ → Top → Option ℕ → NextEvent
by_limit_left levels t (Some zero) = moves (stop t Limit 0)
by_limit_left levels t (Some (suc n)) = charge t (instruction levels t)
by_limit_left levels t None = charge t (instruction levels t)

abbrev pub by_fuel_left : ℕ → Top → ℕ → NextEvent
by_fuel_left levels t zero = moves (stop t Fuel 0)
by_fuel_left levels t (suc n) = by_limit_left levels t t.limit

abbrev pub by_status : ℕ → Top → Status → NextEvent
by_status levels t Running = by_fuel_left levels t t.fuel
by_status levels t (Stopped cause value) = rests

-- what is next of a space with so many levels of children left below it
unfoldable pub next : ℕ → Top → NextEvent
next levels t = by_status levels t t.status

-- the last top is the first one after n local events
abbrev pub Follows : ℕ → ℕ → Top → Top → Type 0
Follows levels zero t u = u ≡ t
Follows levels (suc n) t u = (v : Top) × (next levels t ≡ moves v) × Follows levels n v u

-- what is next is no local event
abbrev pub IsNotLocal : NextEvent → Type 0
IsNotLocal rests = Unit {0}
IsNotLocal (moves t) = ⊥
IsNotLocal (meets k t) = Unit {0}

-- a space that runs and may pay for an event
pub record MayPay (t : Top) : Type 0 where
  pub running : t.status ≡ Running
  pub fuel : 0 < t.fuel
  pub limit : t.limit ≡ Some 0 → ⊥
