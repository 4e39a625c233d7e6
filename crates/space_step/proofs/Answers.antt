-- The answers to what is next, where the instruction at pc may be paid for.
use Rattle.std.proofs.Common.{◌≡◌, ℕ, ◌-◌, true, false, Option, Some, None, refl, sym, ap, ◌∙◌, subst}
use Rattle.instruction_model.specs.Outcome.{Outcome, goes, stores, calls, traps, view_of, outcome}
use Rattle.memory_model.specs.Memory.{may_read, may_write, first_without}
use Rattle.call_model.specs.declared.Call.TheVariants as named
use Rattle.call_model.specs.Calls.{read}
use Rattle.space_model.specs.Sound.{has_devices}
use Rattle.device_model.specs.Devices.{Devices}
use Rattle.space_model.specs.Space.{Top}
use Rattle.space_model.specs.Change.{after_payment}
use Rattle.space_model.specs.Event.{Effect, becomes, asks, charge, with_devices, output, console_out, input, console_in, clock, random, effect_of, by_reading, call, after_outcome, instruction, MayPay}
use Rattle.space_step.specs.declared.event.Next.{Next}
use Rattle.space_step.specs.declared.event.Next.TheVariants as answers
use Rattle.space_step.specs.Steps.{IsNextLocal, IsNext, IsLocal, IsAnswer}
use Rattle.space_step.specs.Stretch.{is_call, is_store}
use Rattle.space_step.proofs.Events.{next_pays}

no_call_is_local : (levels : ℕ) (t : Top) (o : Outcome) → is_call o ≡ false → IsLocal (after_outcome levels t o)
no_call_is_local levels t (goes r) h = tt
no_call_is_local levels t (stores r at width value) h = tt
no_call_is_local levels t calls h = cc
no_call_is_local levels t (traps number value) h = tt

store_is_local : (levels : ℕ) (t : Top) (o : Outcome) → is_store o ≡ true → IsLocal (after_outcome levels t o)
store_is_local levels t (goes r) h = tt
store_is_local levels t (stores r at width value) h = tt
store_is_local levels t calls h = cc
store_is_local levels t (traps number value) h = tt

output_is_local : (t : Top) (d : Devices) (addr len : ℕ) (o : Option ℕ) → IsLocal (output t d addr len o)
output_is_local t d addr len (Some a) = tt
output_is_local t d addr len None = tt

with_devices_is_local : (t : Top) (o : Option Devices) (f : Devices → Effect) → ((d : Devices) → IsLocal (f d)) → IsLocal (with_devices t o f)
with_devices_is_local t None f local = tt
with_devices_is_local t (Some d) f local = local d

-- console out is a local event
pub console_is_local : (t : Top) (addr len : ℕ) → IsLocal (effect_of t (named.ConsoleOut addr len))
console_is_local t addr len = with_devices_is_local t t.devices (console_out t addr len) (λ d. output_is_local t d addr len (first_without (may_read t.memory) addr len))

input_is_local : (t : Top) (d : Devices) (addr len : ℕ) (o : Option ℕ) → IsLocal (input t d addr len o)
input_is_local t d addr len (Some a) = tt
input_is_local t d addr len None = tt

-- so are console in, the clock and a random number
pub buffer_is_local : (t : Top) (addr len : ℕ) → IsLocal (effect_of t (named.ConsoleIn addr len))
buffer_is_local t addr len = with_devices_is_local t t.devices (console_in t addr len) (λ d. input_is_local t d addr len (first_without (may_write t.memory) addr len))

pub clock_is_local : (t : Top) → IsLocal (effect_of t named.Clock)
clock_is_local t = with_devices_is_local t t.devices (clock t) (λ d. tt)

pub random_is_local : (t : Top) → IsLocal (effect_of t named.Random)
random_is_local t = with_devices_is_local t t.devices (random t) (λ d. tt)

local_is_next : (levels : ℕ) (t : Top) (e : Effect) → MayPay t → instruction levels t ≡ e → IsLocal e → IsNext levels answers.Local t
local_is_next levels t (becomes u) may is local = (after_payment t u, next_pays levels t may ∙ ap (charge t) is)
local_is_next levels t (asks k) may is local = absurd local

-- where the instruction may be paid for, its effect is next
pub next_is_effect : (levels : ℕ) (t : Top) (a : Next) → MayPay t → IsAnswer a (instruction levels t) → IsNext levels a t
next_is_effect levels t answers.Local may e = local_is_next levels t _ may refl e
next_is_effect levels t (answers.Meet k) may e = next_pays levels t may ∙ ap (charge t) e
next_is_effect levels t answers.Stopped may e = absurd e

-- a store is a local event
pub store_is_next : (levels : ℕ) (t : Top) → MayPay t → is_store (outcome (view_of t.memory) t.registers) ≡ true → IsNextLocal levels t
store_is_next levels t may h = next_is_effect levels t answers.Local may (store_is_local levels t _ h)

pub no_call_is_next : (levels : ℕ) (t : Top) → MayPay t → is_call (outcome (view_of t.memory) t.registers) ≡ false → IsNext levels answers.Local t
no_call_is_next levels t may h = next_is_effect levels t answers.Local may (no_call_is_local levels t _ h)

only_calls : (o : Outcome) → is_call o ≡ true → o ≡ calls
only_calls (goes r) h = cc
only_calls (stores r at width value) h = cc
only_calls calls h = refl
only_calls (traps number value) h = cc

pub call_is_next : (levels depth : ℕ) (t : Top) (a : Next) → MayPay t → 8 - levels ≡ depth → is_call (outcome (view_of t.memory) t.registers) ≡ true
    → IsAnswer a (by_reading t (read t.registers.x (has_devices t.devices) depth)) → IsNext levels a t
call_is_next levels depth t a may at h is =
    let e : instruction levels t ≡ call levels t = ap (after_outcome levels t) (only_calls _ h) in
    let k : IsAnswer a (call levels t) = subst (λ (d : ℕ). IsAnswer a (by_reading t (read t.registers.x (has_devices t.devices) d))) (sym at) is in
    next_is_effect levels t a may (subst (IsAnswer a) (sym e) k)
