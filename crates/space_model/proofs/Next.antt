-- What the next event of a space tells: a call that meets a child is one that may, of a top that may pay; a local event keeps a top
-- sound, and so do many.
use Rattle.std.proofs.Common.{◌≡◌, ℕ, zero, suc, ◌-◌, ◌<◌, Bool, true, List, [], ◌∷◌, Option, Some, None, Result, Ok, Err, refl, sym, ap, ◌∙◌, subst, arith}
use Rattle.memory_model.specs.Memory.{may_read, may_write, first_without}
use Rattle.instruction_model.specs.Outcome.{view_of, Outcome, goes, stores, calls, traps, outcome}
use Rattle.call_model.specs.declared.Call.{Call}
use Rattle.call_model.specs.declared.Call.TheVariants as named
use Rattle.call_model.specs.declared.Badcall as refusal
use Rattle.call_model.specs.declared.Kind.{Kind}
use Rattle.call_model.specs.Limits.{greatest_depth}
use Rattle.call_model.specs.Calls.{row, kind_of, meets_children, argument, first_failing, kind_in, unless_failed, read_as, read}
use Rattle.call_model.specs.Calls as reading
use Rattle.call_model.specs.Accepted.{IsAccepted}
use Rattle.call_model.proofs.Accepted.{Passes, passes, named_accepted, levels_accepted, children_accepted}
use Rattle.space_model.specs.declared.Status.{Status}
use Rattle.space_model.specs.declared.Status.TheVariants.{Running, Stopped}
use Rattle.device_model.specs.Devices.{Devices}
use Rattle.space_model.specs.Space.{Top}
use Rattle.space_model.specs.Sound.{has_devices, IsSoundTop}
use Rattle.space_model.specs.Change.{after_payment}
use Rattle.space_model.specs.Meeting.{MayMeet}
use Rattle.space_model.specs.declared.FileAnswer.{FileAnswer}
use Rattle.space_model.specs.declared.FileAnswer.TheVariants.{Done, Refused, Fault}
use Rattle.space_model.specs.Files.{FileResult, file_call}
use Rattle.space_model.specs.Event.{Effect, becomes, asks, NextEvent, rests, moves, meets, charge, with_devices, output, console_out, input, console_in, next_number, clock, random, effect_of, after_answer, after_file_call, by_reading, call, after_outcome, instruction, by_limit_left, by_fuel_left, by_status, next, Follows, IsNotLocal, MayPay}

-- no call of a device is asked for
device_asks : (t : Top) (o : Option Devices) (f : Devices → Effect) (k : Call) → ((d : Devices) → f d ≡ asks k → ⊥) → with_devices t o f ≡ asks k → ⊥
device_asks t None f k none e = cc
device_asks t (Some d) f k none e = none d e

output_asks : (t : Top) (d : Devices) (addr len : ℕ) (o : Option ℕ) (k : Call) → output t d addr len o ≡ asks k → ⊥
output_asks t d addr len (Some a) k e = cc
output_asks t d addr len None k e = cc

console_asks : (t : Top) (addr len : ℕ) (k : Call) → effect_of t (named.ConsoleOut addr len) ≡ asks k → ⊥
console_asks t addr len k e = device_asks t t.devices (console_out t addr len) k (λ d. output_asks t d addr len (first_without (may_read t.memory) addr len) k) e

input_asks : (t : Top) (d : Devices) (addr len : ℕ) (o : Option ℕ) (k : Call) → input t d addr len o ≡ asks k → ⊥
input_asks t d addr len (Some a) k e = cc
input_asks t d addr len None k e = cc

buffer_asks : (t : Top) (addr len : ℕ) (k : Call) → effect_of t (named.ConsoleIn addr len) ≡ asks k → ⊥
buffer_asks t addr len k e = device_asks t t.devices (console_in t addr len) k (λ d. input_asks t d addr len (first_without (may_write t.memory) addr len) k) e

clock_asks : (t : Top) (k : Call) → effect_of t named.Clock ≡ asks k → ⊥
clock_asks t k e = device_asks t t.devices (clock t) k (λ d h. cc) e

random_asks : (t : Top) (k : Call) → effect_of t named.Random ≡ asks k → ⊥
random_asks t k e = device_asks t t.devices (random t) k (λ d h. cc) e

-- the call that is asked for is the call itself
asked : (t : Top) (c k : Call) → effect_of t c ≡ asks k → c ≡ k
asked t (named.ConsoleOut addr len) k e = absurd (console_asks t addr len k e)
asked t (named.ConsoleIn addr len) k e = absurd (buffer_asks t addr len k e)
asked t named.Clock k e = absurd (clock_asks t k e)
asked t named.Random k e = absurd (random_asks t k e)
asked t (named.File call) k e = cc
asked t c k e = cc

-- and its kind is one that meets children
asked_meets : (t : Top) (c k : Call) → effect_of t c ≡ asks k → meets_children (kind_in c) ≡ true
asked_meets t (named.ConsoleOut addr len) k e = absurd (console_asks t addr len k e)
asked_meets t (named.ConsoleIn addr len) k e = absurd (buffer_asks t addr len k e)
asked_meets t named.Clock k e = absurd (clock_asks t k e)
asked_meets t named.Random k e = absurd (random_asks t k e)
asked_meets t (named.File call) k e = cc
asked_meets t (named.Ret value) k e = cc
asked_meets t c k e = refl

-- of registers that fail no test, it may meet its children
named_meets : (levels : ℕ) (t : Top) (kind : Kind) (x : List ℕ) (root : Bool) (k : Call) → Passes (row kind) x root (greatest_depth - levels) → effect_of t (reading.call_of kind x) ≡ asks k → MayMeet levels (reading.call_of kind x)
named_meets levels t kind x root k p e =
    record { meets = asked_meets t (reading.call_of kind x) k e; below = levels_accepted kind x levels p.levels; children = children_accepted kind x p.children }

answer_asks : (levels : ℕ) (t : Top) (kind : Kind) (x : List ℕ) (root : Bool) (k : Call) (o : Option ℕ) → first_failing kind x root (greatest_depth - levels) ≡ o
    → by_reading t (unless_failed o (reading.call_of kind x)) ≡ asks k → MayMeet levels k × IsAccepted k
answer_asks levels t kind x root k (Some n) is e = cc
answer_asks levels t kind x root k None is e =
    let same = asked t (reading.call_of kind x) k e in
    (subst (MayMeet levels) same (named_meets levels t kind x root k (passes (row kind) x root (greatest_depth - levels) is) e), subst IsAccepted same (named_accepted kind x root (greatest_depth - levels) is))

reading_asks : (levels : ℕ) (t : Top) (o : Option Kind) (x : List ℕ) (root : Bool) (k : Call) → by_reading t (read_as o x root (greatest_depth - levels)) ≡ asks k → MayMeet levels k × IsAccepted k
reading_asks levels t None x root k e = cc
reading_asks levels t (Some kind) x root k e = answer_asks levels t kind x root k _ refl e

outcome_asks : (levels : ℕ) (t : Top) (o : Outcome) (k : Call) → after_outcome levels t o ≡ asks k → call levels t ≡ asks k
outcome_asks levels t (goes r) k e = cc
outcome_asks levels t (stores r at width value) k e = cc
outcome_asks levels t calls k e = e
outcome_asks levels t (traps number value) k e = cc

-- what is known of a call that is next
pub record IsCall (levels : ℕ) (t : Top) (k : Call) (u : Top) : Type 0 where
  pub may : MayMeet levels k
  pub paid : u ≡ after_payment t t
  pub pays : MayPay t
  pub accepted : IsAccepted k

instruction_asks : (levels : ℕ) (t : Top) (k : Call) → instruction levels t ≡ asks k → MayMeet levels k × IsAccepted k
instruction_asks levels t k e =
    reading_asks levels t (kind_of (argument t.registers.x 7)) t.registers.x (has_devices t.devices) k (outcome_asks levels t (outcome (view_of t.memory) t.registers) k e)

charged_meets : (t : Top) (m : Effect) (k : Call) (u : Top) → charge t m ≡ meets k u → (m ≡ asks k) × (u ≡ after_payment t t)
charged_meets t (becomes v) k u e = cc
charged_meets t (asks j) k u e = let same : j ≡ k = cc in let pays : after_payment t t ≡ u = cc in (ap asks same, sym pays)

limited_meets : (levels : ℕ) (t : Top) (o : Option ℕ) (k : Call) (u : Top) → by_limit_left levels t o ≡ meets k u → (instruction levels t ≡ asks k) × (u ≡ after_payment t t) × (o ≡ Some 0 → ⊥)
limited_meets levels t (Some zero) k u e = cc
limited_meets levels t (Some (suc n)) k u e = let h = charged_meets t (instruction levels t) k u e in (h.0, h.1, λ z. cc)
limited_meets levels t None k u e = let h = charged_meets t (instruction levels t) k u e in (h.0, h.1, λ z. cc)

fuelled_meets : (levels : ℕ) (t : Top) (n : ℕ) (k : Call) (u : Top) → by_fuel_left levels t n ≡ meets k u → (instruction levels t ≡ asks k) × (u ≡ after_payment t t) × (t.limit ≡ Some 0 → ⊥) × (0 < n)
fuelled_meets levels t zero k u e = cc
fuelled_meets levels t (suc n) k u e = let h = limited_meets levels t t.limit k u e in let some : 0 < suc n = omega arith in (h.0, h.1, h.2, some)

status_meets : (levels : ℕ) (t : Top) (s : Status) (k : Call) (u : Top) → by_status levels t s ≡ meets k u → (s ≡ Running) × (by_fuel_left levels t t.fuel ≡ meets k u)
status_meets levels t Running k u e = (refl, e)
status_meets levels t (Stopped cause value) k u e = cc

-- a call that is next may meet its child, and its caller may pay for it
pub next_meets : (levels : ℕ) (t : Top) (k : Call) (u : Top) → next levels t ≡ meets k u → IsCall levels t k u
unfolding next
next_meets levels t k u e =
    let s = status_meets levels t t.status k u e in
    let f = fuelled_meets levels t t.fuel k u s.1 in
    let i = instruction_asks levels t k f.0 in
    record { may = i.0; paid = f.1; pays = record { running = s.0; fuel = f.3; limit = f.2 }; accepted = i.1 }

-- an effect keeps devices where they are, and brings none
abbrev KeepsDevices : Top → Effect → Type 0
KeepsDevices t (becomes u) = has_devices u.devices ≡ has_devices t.devices
KeepsDevices t (asks k) = Unit {0}

device_keeps : (t : Top) (o : Option Devices) (f : Devices → Effect) → t.devices ≡ o → ((d : Devices) → t.devices ≡ Some d → KeepsDevices t (f d)) → KeepsDevices t (with_devices t o f)
device_keeps t None f is kept = refl
device_keeps t (Some d) f is kept = kept d is

output_keeps : (t : Top) (d : Devices) (addr len : ℕ) (o : Option ℕ) → t.devices ≡ Some d → KeepsDevices t (output t d addr len o)
output_keeps t d addr len (Some a) is = refl
output_keeps t d addr len None is = rw is refl

input_keeps : (t : Top) (d : Devices) (addr len : ℕ) (o : Option ℕ) → t.devices ≡ Some d → KeepsDevices t (input t d addr len o)
input_keeps t d addr len (Some a) is = refl
input_keeps t d addr len None is = rw is refl

number_keeps : (t : Top) (d : Devices) (ns : List ℕ) (left : List ℕ → Devices) → t.devices ≡ Some d → has_devices (next_number t ns left).devices ≡ has_devices t.devices
number_keeps t d [] left is = refl
number_keeps t d (n ∷ ns) left is = rw is refl

answer_keeps : (a : FileAnswer) (t : Top) → (after_answer a t).devices ≡ t.devices
answer_keeps (Done None) t = refl
answer_keeps (Done (Some n)) t = refl
answer_keeps (Refused error) t = refl
answer_keeps (Fault r) t = refl

-- a call on a file leaves the devices as they are
pub file_call_keeps : (r : FileResult) (t : Top) → (after_file_call r t).devices ≡ t.devices
file_call_keeps r t = answer_keeps r.answer (record t { memory = r.memory })

effect_keeps : (t : Top) (c : Call) → KeepsDevices t (effect_of t c)
effect_keeps t (named.Ret value) = refl
effect_keeps t (named.ConsoleOut addr len) = device_keeps t t.devices (console_out t addr len) refl (λ d. output_keeps t d addr len (first_without (may_read t.memory) addr len))
effect_keeps t (named.ConsoleIn addr len) = device_keeps t t.devices (console_in t addr len) refl (λ d. input_keeps t d addr len (first_without (may_write t.memory) addr len))
effect_keeps t named.Clock = device_keeps t t.devices (clock t) refl (λ d. number_keeps t d d.clocks (λ ns. record d { clocks = ns }))
effect_keeps t named.Random = device_keeps t t.devices (random t) refl (λ d. number_keeps t d d.numbers (λ ns. record d { numbers = ns }))
effect_keeps t (named.File call) = ap has_devices (file_call_keeps (file_call call t.memory) t)
effect_keeps t c = tt

reading_keeps : (t : Top) (r : Result Call refusal.Badcall) → KeepsDevices t (by_reading t r)
reading_keeps t (Err test) = refl
reading_keeps t (Ok c) = effect_keeps t c

outcome_keeps : (levels : ℕ) (t : Top) (o : Outcome) → KeepsDevices t (after_outcome levels t o)
outcome_keeps levels t (goes r) = refl
outcome_keeps levels t (stores r at width value) = refl
outcome_keeps levels t calls = reading_keeps t (read t.registers.x (has_devices t.devices) (greatest_depth - levels))
outcome_keeps levels t (traps number value) = refl

-- a local event keeps a top sound
abbrev KeepsSound : ℕ → Bool → NextEvent → Type 0
KeepsSound fuel root rests = Unit {0}
KeepsSound fuel root (moves u) = IsSoundTop fuel root u
KeepsSound fuel root (meets k u) = Unit {0}

charged_sound : (fuel : ℕ) (root : Bool) (t : Top) (m : Effect) → 0 < t.fuel → IsSoundTop fuel root t → KeepsDevices t m → KeepsSound fuel root (charge t m)
charged_sound fuel root t (becomes u) some ok kept = let total = ok.sum in record { sum = omega arith; devices = kept ∙ ok.devices }
charged_sound fuel root t (asks k) some ok kept = tt

limited_sound : (levels fuel : ℕ) (root : Bool) (t : Top) (o : Option ℕ) → 0 < t.fuel → IsSoundTop fuel root t → KeepsSound fuel root (by_limit_left levels t o)
limited_sound levels fuel root t (Some zero) some ok = record { sum = ok.sum; devices = ok.devices }
limited_sound levels fuel root t (Some (suc n)) some ok = charged_sound fuel root t (instruction levels t) some ok (outcome_keeps levels t (outcome (view_of t.memory) t.registers))
limited_sound levels fuel root t None some ok = charged_sound fuel root t (instruction levels t) some ok (outcome_keeps levels t (outcome (view_of t.memory) t.registers))

fuelled_sound : (levels fuel : ℕ) (root : Bool) (t : Top) (n : ℕ) → t.fuel ≡ n → IsSoundTop fuel root t → KeepsSound fuel root (by_fuel_left levels t n)
fuelled_sound levels fuel root t zero is ok = record { sum = ok.sum; devices = ok.devices }
fuelled_sound levels fuel root t (suc n) is ok = let some : 0 < t.fuel = omega (arith, is) in limited_sound levels fuel root t t.limit some ok

status_sound : (levels fuel : ℕ) (root : Bool) (t : Top) (s : Status) → IsSoundTop fuel root t → KeepsSound fuel root (by_status levels t s)
status_sound levels fuel root t Running ok = fuelled_sound levels fuel root t t.fuel refl ok
status_sound levels fuel root t (Stopped cause value) ok = tt

pub next_sound : (levels fuel : ℕ) (root : Bool) (t u : Top) → next levels t ≡ moves u → IsSoundTop fuel root t → IsSoundTop fuel root u
unfolding next
next_sound levels fuel root t u e ok = subst (KeepsSound fuel root) e (status_sound levels fuel root t t.status ok)

-- and so do so many
pub follows_sound : (levels n fuel : ℕ) (root : Bool) (t u : Top) → Follows levels n t u → IsSoundTop fuel root t → IsSoundTop fuel root u
follows_sound levels zero fuel root t u is ok = rw is ok
follows_sound levels (suc n) fuel root t u is ok = follows_sound levels n fuel root is.0 u is.2 (next_sound levels fuel root t is.0 is.1 ok)

-- a local event is none that is not
pub not_local : (levels : ℕ) (t u : Top) → next levels t ≡ moves u → IsNotLocal (next levels t) → ⊥
not_local levels t u e h = subst IsNotLocal e h
