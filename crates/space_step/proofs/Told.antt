-- An event that writes to the console is a call that names what it writes by a1 and a2, which stay as they are. Calls are told by their kinds in `kind_told`.
use Rattle.std.proofs.Common.{◌≡◌, ℕ, zero, suc, ◌-◌, inl, inr, Bool, true, false, if◌then◌else◌, List, [], ◌∷◌, ◌++◌, Option, Some, None, refl, sym, ◌∙◌, ap, subst, arith}
use Rattle.std.proofs.lemmas.List.{get_or-set_other}
use Rattle.memory_model.specs.Memory.{may_read, may_write, first_without, bytes_from}
use Rattle.instruction_model.specs.Outcome.{Registers, view_of, Outcome, goes, stores, calls, traps, outcome, with_register, onward}
use Rattle.call_model.specs.declared.Call.{Call}
use Rattle.call_model.specs.declared.Kind.{Kind}
use Rattle.call_model.specs.declared.Kind.TheVariants as kinds
use Rattle.call_model.specs.Limits.{greatest_depth}
use Rattle.call_model.specs.Accepted.{IsAccepted, IsSpan}
use Rattle.call_model.specs.Options.{has, tree}
use Rattle.call_model.specs.Calls.{argument, call_of, first_failing, kind_of, read_as, unless_failed}
use Rattle.call_model.proofs.Accepted.{named_accepted}
use Rattle.device_model.specs.Devices.{Devices}
use Rattle.space_model.specs.declared.Status.{Status}
use Rattle.space_model.specs.declared.Status.TheVariants.{Running, Stopped}
use Rattle.space_model.specs.Space.{Top, console_bytes}
use Rattle.space_model.specs.Sound.{has_devices}
use Rattle.space_model.specs.Files.{file_call}
use Rattle.space_model.specs.Event.{Effect, becomes, asks, NextEvent, rests, moves, meets, charge, with_devices, output, console_out, input, console_in, next_number, clock, random, effect_of, by_reading, after_outcome, instruction, by_limit_left, by_fuel_left, by_status, next}
use Rattle.space_model.proofs.Next.{file_call_keeps}
use Rattle.space_step.specs.Output.{IsTold}

-- an effect is told
abbrev Tells : Top → Effect → Type 0
Tells t (becomes u) = IsTold t u
Tells t (asks k) = Unit {0}

same_told : (t u : Top) → u.devices ≡ t.devices → IsTold t u
same_told t u e = inl (ap console_bytes e)

device_told : (t : Top) (o : Option Devices) (f : Devices → Effect) → t.devices ≡ o → ((d : Devices) → t.devices ≡ Some d → Tells t (f d)) → Tells t (with_devices t o f)
device_told t None f is each = same_told t t refl
device_told t (Some d) f is each = each d is

-- a0 is another register than a1 and a2
first_kept : (s : Registers) → (let u = with_register (onward s) 10 0 in argument u.x 1) ≡ argument s.x 1
first_kept s = get_or-set_other s.x 10 11 0 0 (omega arith)

second_kept : (s : Registers) → (let u = with_register (onward s) 10 0 in argument u.x 2) ≡ argument s.x 2
second_kept s = get_or-set_other s.x 10 12 0 0 (omega arith)

output_told : (t : Top) (d : Devices) (o : Option ℕ) → IsSpan (argument t.registers.x 1) (argument t.registers.x 2) → t.devices ≡ Some d
    → Tells t (output t d (argument t.registers.x 1) (argument t.registers.x 2) o)
output_told t d (Some a) ok is = same_told t t refl
output_told t d None ok is =
    let from = first_kept t.registers in
    let count = second_kept t.registers in
    inr (rw (from, count) ok.within, rw (from, count) (ap (λ o. console_bytes o ++ bytes_from t.memory (argument t.registers.x 1) (argument t.registers.x 2)) (sym is)))

input_told : (t : Top) (d : Devices) (addr len : ℕ) (o : Option ℕ) → t.devices ≡ Some d → Tells t (input t d addr len o)
input_told t d addr len (Some a) is = same_told t t refl
input_told t d addr len None is = inl (sym (ap console_bytes is))

number_told : (t : Top) (d : Devices) (ns : List ℕ) (left : List ℕ → Devices) → t.devices ≡ Some d → ((rest : List ℕ) → (left rest).console ≡ d.console) → IsTold t (next_number t ns left)
number_told t d [] left is same = same_told t (next_number t [] left) refl
number_told t d (n ∷ ns) left is same = inl (same ns ∙ sym (ap console_bytes is))

either : (t : Top) (c : Bool) (j k : Call) → Tells t (effect_of t j) → Tells t (effect_of t k) → Tells t (effect_of t (if c then j else k))
either t true j k p q = p
either t false j k p q = q

kind_told : (t : Top) (kind : Kind) → IsAccepted (call_of kind t.registers.x) → Tells t (effect_of t (call_of kind t.registers.x))
kind_told t kinds.Put ok = either t (has tree (argument t.registers.x 0)) _ _ tt tt
kind_told t kinds.Get ok = either t (has tree (argument t.registers.x 0)) _ _ tt tt
kind_told t kinds.Ret ok = inl refl
kind_told t kinds.ConsoleOut ok =
    device_told t t.devices (console_out t (argument t.registers.x 1) (argument t.registers.x 2)) refl
    (λ d. output_told t d (first_without (may_read t.memory) (argument t.registers.x 1) (argument t.registers.x 2)) ok)
kind_told t kinds.ConsoleIn ok =
    device_told t t.devices (console_in t (argument t.registers.x 1) (argument t.registers.x 2)) refl
    (λ d. input_told t d (argument t.registers.x 1) (argument t.registers.x 2) (first_without (may_write t.memory) (argument t.registers.x 1) (argument t.registers.x 2)))
kind_told t kinds.Clock ok = device_told t t.devices (clock t) refl (λ d is. number_told t d d.clocks (λ ns. record d { clocks = ns }) is (λ rest. refl))
kind_told t kinds.Random ok = device_told t t.devices (random t) refl (λ d is. number_told t d d.numbers (λ ns. record d { numbers = ns }) is (λ rest. refl))
kind_told t kinds.Fork ok = tt
kind_told t kinds.Wait ok = tt
kind_told t kinds.Tfork ok = tt
kind_told t kinds.Tjoin ok = tt
kind_told t kinds.Qstart ok = tt
kind_told t kinds.Qcommit ok = tt
kind_told t kinds.FileNew ok = inl (ap console_bytes (file_call_keeps (file_call _ t.memory) t))
kind_told t kinds.FilePut ok = inl (ap console_bytes (file_call_keeps (file_call _ t.memory) t))
kind_told t kinds.FileGet ok = inl (ap console_bytes (file_call_keeps (file_call _ t.memory) t))
kind_told t kinds.FileLength ok = inl (ap console_bytes (file_call_keeps (file_call _ t.memory) t))
kind_told t kinds.FileDelete ok = inl (ap console_bytes (file_call_keeps (file_call _ t.memory) t))

answer_told : (t : Top) (kind : Kind) (root : Bool) (depth : ℕ) (o : Option ℕ) → first_failing kind t.registers.x root depth ≡ o
    → Tells t (by_reading t (unless_failed o (call_of kind t.registers.x)))
answer_told t kind root depth (Some test) is = same_told t t refl
answer_told t kind root depth None is = kind_told t kind (named_accepted kind t.registers.x root depth is)

reading_told : (t : Top) (o : Option Kind) (root : Bool) (depth : ℕ) → Tells t (by_reading t (read_as o t.registers.x root depth))
reading_told t None root depth = same_told t t refl
reading_told t (Some kind) root depth = answer_told t kind root depth (first_failing kind t.registers.x root depth) refl

outcome_told : (levels : ℕ) (t : Top) (o : Outcome) → Tells t (after_outcome levels t o)
outcome_told levels t (goes r) = same_told t (record t { registers = r }) refl
outcome_told levels t (stores r at width value) = inl refl
outcome_told levels t calls = reading_told t (kind_of (argument t.registers.x 7)) (has_devices t.devices) (greatest_depth - levels)
outcome_told levels t (traps number value) = same_told t t refl

-- what follows an event is told
abbrev TellsNext : Top → NextEvent → Type 0
TellsNext t rests = Unit {0}
TellsNext t (moves u) = IsTold t u
TellsNext t (meets k u) = Unit {0}

charged_told : (t : Top) (m : Effect) → Tells t m → TellsNext t (charge t m)
charged_told t (becomes u) h = h
charged_told t (asks k) h = tt

instruction_told : (levels : ℕ) (t : Top) → TellsNext t (charge t (instruction levels t))
instruction_told levels t = charged_told t (instruction levels t) (outcome_told levels t (outcome (view_of t.memory) t.registers))

limited_told : (levels : ℕ) (t : Top) (o : Option ℕ) → TellsNext t (by_limit_left levels t o)
limited_told levels t (Some zero) = same_told t t refl
limited_told levels t (Some (suc n)) = instruction_told levels t
limited_told levels t None = instruction_told levels t

fuelled_told : (levels : ℕ) (t : Top) (n : ℕ) → TellsNext t (by_fuel_left levels t n)
fuelled_told levels t zero = same_told t t refl
fuelled_told levels t (suc n) = limited_told levels t t.limit

status_told : (levels : ℕ) (t : Top) (s : Status) → TellsNext t (by_status levels t s)
status_told levels t Running = fuelled_told levels t t.fuel
status_told levels t (Stopped cause value) = tt

next_told : (levels : ℕ) (t : Top) → TellsNext t (next levels t)
unfolding next
next_told levels t = status_told levels t t.status

-- a local event
pub event_told : (levels : ℕ) (t u : Top) → next levels t ≡ moves u → IsTold t u
event_told levels t u e = subst (TellsNext t) e (next_told levels t)
