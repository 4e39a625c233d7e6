-- No event of a space changes its own snapshot.
use Rattle.std.proofs.Common.{◌≡◌, ℕ, zero, suc, ◌-◌, Bool, true, false, List, [], ◌∷◌, Option, Some, None, Result, Ok, Err, refl, ◌∙◌, subst}
use Rattle.memory_model.specs.Memory.{may_read, may_write, first_without}
use Rattle.instruction_model.specs.Outcome.{view_of, Outcome, goes, stores, calls, traps, outcome}
use Rattle.device_model.specs.Devices.{Devices}
use Rattle.call_model.specs.declared.Transfer.{Transfer}
use Rattle.call_model.specs.declared.Call.{Call}
use Rattle.call_model.specs.declared.Call.TheVariants as named
use Rattle.call_model.specs.declared.Badcall as refusal
use Rattle.call_model.specs.Calls.{read}
use Rattle.call_model.specs.Limits.{greatest_depth}
use Rattle.call_model.specs.Options.{has}
use Rattle.space_model.specs.declared.Refusal.{Refusal}
use Rattle.space_model.specs.declared.Status.{Status}
use Rattle.space_model.specs.declared.Status.TheVariants.{Running, Stopped}
use Rattle.space_model.specs.declared.FileAnswer.{FileAnswer}
use Rattle.space_model.specs.declared.FileAnswer.TheVariants.{Done, Refused, Fault}
use Rattle.space_model.specs.Space.{Top, Space, space, Children, top_of}
use Rattle.space_model.specs.Sound.{has_devices}
use Rattle.space_model.specs.Files.{FileResult, file_call}
use Rattle.space_model.specs.Part.{Part, part_if, with_parts, get_parts, caller_after}
use Rattle.space_model.specs.Runtime.{after_join, after_wait}
use Rattle.space_model.specs.Call.{Meeting, Seen, seen_of, first_top}
use Rattle.space_model.specs.Refusals.{first_refusal}
use Rattle.space_model.specs.Meeting.{awaits, or_fresh, refusals, action, unless_refused, meeting}
use Rattle.space_model.specs.Event.{Effect, becomes, asks, NextEvent, rests, moves, meets, charge, with_devices, output, console_out, input, console_in, next_number, clock, random, effect_of, after_answer, after_file_call, by_reading, after_outcome, instruction, by_limit_left, by_fuel_left, by_status, next}
use Rattle.run_model.specs.Schedule.{event, step}

-- a top with another's snapshot
abbrev pub Keeps : Top → Top → Type 0
Keeps t u = u.snapshot ≡ t.snapshot

-- ---- local events

abbrev KeepsBy : Top → Effect → Type 0
KeepsBy t (becomes u) = Keeps t u
KeepsBy t (asks k) = Unit {0}

device_keeps : (t : Top) (o : Option Devices) (f : Devices → Effect) → ((d : Devices) → KeepsBy t (f d)) → KeepsBy t (with_devices t o f)
device_keeps t None f each = refl
device_keeps t (Some d) f each = each d

output_keeps : (t : Top) (d : Devices) (addr len : ℕ) (o : Option ℕ) → KeepsBy t (output t d addr len o)
output_keeps t d addr len (Some a) = refl
output_keeps t d addr len None = refl

input_keeps : (t : Top) (d : Devices) (addr len : ℕ) (o : Option ℕ) → KeepsBy t (input t d addr len o)
input_keeps t d addr len (Some a) = refl
input_keeps t d addr len None = refl

number_keeps : (t : Top) (ns : List ℕ) (left : List ℕ → Devices) → Keeps t (next_number t ns left)
number_keeps t [] left = refl
number_keeps t (n ∷ ns) left = refl

answer_keeps : (a : FileAnswer) (t : Top) → Keeps t (after_answer a t)
answer_keeps (Done None) t = refl
answer_keeps (Done (Some n)) t = refl
answer_keeps (Refused error) t = refl
answer_keeps (Fault r) t = refl

file_call_keeps : (r : FileResult) (t : Top) → Keeps t (after_file_call r t)
file_call_keeps r t = answer_keeps r.answer (record t { memory = r.memory })

effect_keeps : (t : Top) (c : Call) → KeepsBy t (effect_of t c)
effect_keeps t (named.Ret value) = refl
effect_keeps t (named.ConsoleOut addr len) = device_keeps t t.devices (console_out t addr len) (λ d. output_keeps t d addr len (first_without (may_read t.memory) addr len))
effect_keeps t (named.ConsoleIn addr len) = device_keeps t t.devices (console_in t addr len) (λ d. input_keeps t d addr len (first_without (may_write t.memory) addr len))
effect_keeps t named.Clock = device_keeps t t.devices (clock t) (λ d. number_keeps t d.clocks (λ ns. record d { clocks = ns }))
effect_keeps t named.Random = device_keeps t t.devices (random t) (λ d. number_keeps t d.numbers (λ ns. record d { numbers = ns }))
effect_keeps t (named.File call) = file_call_keeps (file_call call t.memory) t
effect_keeps t c = tt

reading_keeps : (t : Top) (r : Result Call refusal.Badcall) → KeepsBy t (by_reading t r)
reading_keeps t (Err test) = refl
reading_keeps t (Ok c) = effect_keeps t c

outcome_keeps : (levels : ℕ) (t : Top) (o : Outcome) → KeepsBy t (after_outcome levels t o)
outcome_keeps levels t (goes r) = refl
outcome_keeps levels t (stores r at width value) = refl
outcome_keeps levels t calls = reading_keeps t (read t.registers.x (has_devices t.devices) (greatest_depth - levels))
outcome_keeps levels t (traps number value) = refl

-- what is next of a top, and the top that has paid for its call
abbrev KeepsNext : Top → NextEvent → Type 0
KeepsNext t rests = Unit {0}
KeepsNext t (moves u) = Keeps t u
KeepsNext t (meets k u) = Keeps t u

charged_keeps : (t : Top) (e : Effect) → KeepsBy t e → KeepsNext t (charge t e)
charged_keeps t (becomes u) kept = kept
charged_keeps t (asks k) kept = refl

instruction_keeps : (levels : ℕ) (t : Top) → KeepsNext t (charge t (instruction levels t))
instruction_keeps levels t = charged_keeps t (instruction levels t) (outcome_keeps levels t (outcome (view_of t.memory) t.registers))

limited_keeps : (levels : ℕ) (t : Top) (o : Option ℕ) → KeepsNext t (by_limit_left levels t o)
limited_keeps levels t (Some zero) = refl
limited_keeps levels t (Some (suc n)) = instruction_keeps levels t
limited_keeps levels t None = instruction_keeps levels t

fuelled_keeps : (levels : ℕ) (t : Top) (n : ℕ) → KeepsNext t (by_fuel_left levels t n)
fuelled_keeps levels t zero = refl
fuelled_keeps levels t (suc n) = limited_keeps levels t t.limit

status_keeps : (levels : ℕ) (t : Top) (s : Status) → KeepsNext t (by_status levels t s)
status_keeps levels t Running = fuelled_keeps levels t t.fuel
status_keeps levels t (Stopped cause value) = tt

next_keeps : (levels : ℕ) (t : Top) → KeepsNext t (next levels t)
unfolding next
next_keeps levels t = status_keeps levels t t.status

pub paid_keeps : (levels : ℕ) (t u : Top) (k : Call) → next levels t ≡ meets k u → Keeps t u
paid_keeps levels t u k is = subst (KeepsNext t) is (next_keeps levels t)

-- ---- meetings

abbrev PartKeeps : Part → Type 0
PartKeeps p = (t : Top) → Keeps t (p t)

abbrev PartsKeep : List (ℕ × Part) → Type 0
PartsKeep [] = Unit {0}
PartsKeep (p ∷ ps) = PartKeeps p.1 × PartsKeep ps

optional_keeps : (asked : Bool) (p : Part) → PartKeeps p → (t : Top) → Keeps t (part_if asked p t)
optional_keeps true p each t = each t
optional_keeps false p each t = refl

parts_keep : (options : ℕ) (ps : List (ℕ × Part)) → PartsKeep ps → (t : Top) → Keeps t (with_parts options ps t)
parts_keep options [] each t = refl
parts_keep options (p ∷ ps) each t = parts_keep options ps each.1 (part_if (has p.0 options) p.1 t) ∙ optional_keeps (has p.0 options) p.1 each.0 t

caller_keeps : (x : Transfer) (c t : Top) → Keeps t (caller_after x c t)
unfolding caller_after
caller_keeps x c t = parts_keep x.options (get_parts x c) (λ u. refl, (λ u. refl, (λ u. refl, (λ u. refl, (λ u. refl, tt))))) t

join_keeps : (c t : Top) → Keeps t (after_join c t)
unfolding after_join
join_keeps c t = refl

wait_keeps : (c t : Top) → Keeps t (after_wait c t)
unfolding after_wait
wait_keeps c t = refl

action_keeps : (k : Call) (t : Top) (seen : List Seen) → Keeps t (action k t seen).caller
action_keeps (named.Get x) t seen = caller_keeps x (or_fresh t (first_top seen)) t
action_keeps (named.Wait child) t seen = wait_keeps (or_fresh t (first_top seen)) t
action_keeps (named.Tjoin child) t seen = join_keeps (or_fresh t (first_top seen)) t
action_keeps k t seen = refl

unless_keeps : (o : Option Refusal) (t : Top) (m : Meeting) → Keeps t m.caller → Keeps t (unless_refused o t m).caller
unless_keeps None t m acts = acts
unless_keeps (Some r) t m acts = refl

meeting_keeps : (levels : ℕ) (k : Call) (t : Top) (seen : List Seen) → Keeps t (meeting levels k t seen).caller
meeting_keeps levels k t seen = unless_keeps (first_refusal (refusals levels k t seen)) t (action k t seen) (action_keeps k t seen)

-- ---- any event

event_keeps : (levels : ℕ) (t : Top) (e : NextEvent) (cs : Children) → KeepsNext t e → Keeps t (top_of (event levels e (space t cs)))
event_keeps levels t rests cs kept = refl
event_keeps levels t (moves u) cs kept = kept
event_keeps levels t (meets k u) cs kept = meeting_keeps levels k u (seen_of (awaits k) cs) ∙ kept

-- at a path from the space on
pub step_keeps : (p : List ℕ) (levels : ℕ) (s : Space) → Keeps (top_of s) (top_of (step p levels s))
step_keeps [] levels (space t cs) = event_keeps levels t (next levels t) cs (next_keeps levels t)
step_keeps (n ∷ p) levels (space t cs) = refl
