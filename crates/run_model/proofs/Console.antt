-- Consoles only grow: no event takes back what was written, and one event appends at most as many bytes as a call may name. Calls are told one by
-- one in `effect_grows`, of those that meet no child, and in `meet_devices`, of those that do.
use Rattle.std.proofs.Common.{◌≡◌, ℕ, zero, suc, ◌+◌, ◌*◌, ◌-◌, ◌≤◌, Bool, List, [], ◌∷◌, ◌++◌, append_assoc, length-append, Option, Some, None, refl, sym, ◌∙◌, ap, subst, arith}
use Rattle.std.proofs.lemmas.List.{append-nil}
use Rattle.memory_model.specs.Memory.{may_read, may_write, first_without, bytes_from}
use Rattle.memory_model.proofs.Runs.{length-bytes_from}
use Rattle.instruction_model.specs.Outcome.{view_of, Outcome, goes, stores, calls, traps, outcome}
use Rattle.call_model.specs.declared.Call.{Call}
use Rattle.call_model.specs.declared.Call.TheVariants.{Ret, ConsoleOut, ConsoleIn, Clock, Random, File}
use Rattle.call_model.specs.declared.Kind.{Kind}
use Rattle.call_model.specs.Limits.{greatest_depth, greatest_length}
use Rattle.call_model.specs.Accepted.{IsAccepted}
use Rattle.call_model.specs.Calls.{argument, call_of, first_failing, kind_of, read_as, unless_failed}
use Rattle.call_model.proofs.Accepted.{named_accepted}
use Rattle.space_model.specs.declared.Status.{Status}
use Rattle.space_model.specs.declared.Status.TheVariants.{Running, Stopped}
use Rattle.device_model.specs.Devices.{Devices}
use Rattle.space_model.specs.Space.{Space, space, Top, Children, top_of, console_bytes}
use Rattle.space_model.specs.Sound.{has_devices}
use Rattle.space_model.specs.Call.{seen_of}
use Rattle.space_model.specs.Files.{file_call}
use Rattle.space_model.specs.Meeting.{awaits, meet}
use Rattle.space_model.specs.Event.{Effect, becomes, asks, NextEvent, rests, moves, meets, charge, with_devices, output, console_out, input, console_in, next_number, clock, random, effect_of, after_file_call, by_reading, after_outcome, instruction, by_limit_left, by_fuel_left, by_status, next, Follows}
use Rattle.space_model.proofs.Parts.{meeting_alike}
use Rattle.space_model.proofs.Next.{next_meets, file_call_keeps}
use Rattle.run_model.specs.Console.{Grows, most_output}
use Rattle.run_model.specs.Demand.{Meaning, wait_for, go_on, run_for, meaning, settle_tree}

-- one after the other
pub grows_same : (most : ℕ) (xs ys : List ℕ) → ys ≡ xs → Grows most xs ys
grows_same most xs ys e = ([], (omega arith, e ∙ sym (append-nil xs)))

pub grows_then : (m n : ℕ) (xs ys zs : List ℕ) → Grows m xs ys → Grows n ys zs → Grows (m + n) xs zs
grows_then m n xs ys zs a b =
    (a.0 ++ b.0, (omega (arith, length-append a.0 b.0, a.1.0, b.1.0), b.1.1 ∙ ap (λ l. l ++ b.0) a.1.1 ∙ append_assoc xs a.0 b.0))

-- the console of one top has grown to that of the other
abbrev HasGrown : ℕ → Top → Top → Type 0
HasGrown most t u = Grows most (console_bytes t.devices) (console_bytes u.devices)

-- the same devices
pub same_devices : (most : ℕ) (t u : Top) → u.devices ≡ t.devices → HasGrown most t u
same_devices most t u e = grows_same most (console_bytes t.devices) (console_bytes u.devices) (ap console_bytes e)

-- by one event
abbrev Writes : Top → Effect → Type 0
Writes t (becomes u) = HasGrown most_output t u
Writes t (asks k) = Unit {0}

device_grows : (t : Top) (o : Option Devices) (f : Devices → Effect) → t.devices ≡ o → ((d : Devices) → t.devices ≡ Some d → Writes t (f d))
    → Writes t (with_devices t o f)
device_grows t None f is each = same_devices most_output t t refl
device_grows t (Some d) f is each = each d is

output_grows : (t : Top) (d : Devices) (addr len : ℕ) (o : Option ℕ) → len ≤ greatest_length → t.devices ≡ Some d → Writes t (output t d addr len o)
output_grows t d addr len (Some a) short is = same_devices most_output t t refl
output_grows t d addr len None short is =
    (bytes_from t.memory addr len, (subst (λ n. n ≤ greatest_length) (sym (length-bytes_from t.memory addr len)) short, ap (λ o. console_bytes o ++ bytes_from t.memory addr len) (sym is)))

input_grows : (t : Top) (d : Devices) (addr len : ℕ) (o : Option ℕ) → t.devices ≡ Some d → Writes t (input t d addr len o)
input_grows t d addr len (Some a) is = same_devices most_output t t refl
input_grows t d addr len None is = grows_same most_output (console_bytes t.devices) d.console (sym (ap console_bytes is))

number_grows : (t : Top) (d : Devices) (ns : List ℕ) (left : List ℕ → Devices) → t.devices ≡ Some d → ((rest : List ℕ) → (left rest).console ≡ d.console)
    → HasGrown most_output t (next_number t ns left)
number_grows t d [] left is same = same_devices most_output t (next_number t [] left) refl
number_grows t d (n ∷ ns) left is same = grows_same most_output (console_bytes t.devices) (left ns).console (same ns ∙ sym (ap console_bytes is))

effect_grows : (t : Top) (c : Call) → IsAccepted c → Writes t (effect_of t c)
effect_grows t (Ret value) ok = same_devices most_output t t refl
effect_grows t (ConsoleOut addr len) ok = device_grows t t.devices (console_out t addr len) refl (λ d. output_grows t d addr len (first_without (may_read t.memory) addr len) ok.short)
effect_grows t (ConsoleIn addr len) ok = device_grows t t.devices (console_in t addr len) refl (λ d. input_grows t d addr len (first_without (may_write t.memory) addr len))
effect_grows t Clock ok = device_grows t t.devices (clock t) refl (λ d is. number_grows t d d.clocks (λ ns. record d { clocks = ns }) is (λ rest. refl))
effect_grows t Random ok = device_grows t t.devices (random t) refl (λ d is. number_grows t d d.numbers (λ ns. record d { numbers = ns }) is (λ rest. refl))
effect_grows t (File call) ok = same_devices most_output t (after_file_call (file_call call t.memory) t) (file_call_keeps (file_call call t.memory) t)
effect_grows t c ok = tt

answer_grows : (t : Top) (kind : Kind) (x : List ℕ) (root : Bool) (depth : ℕ) (o : Option ℕ) → first_failing kind x root depth ≡ o → Writes t (by_reading t (unless_failed o (call_of kind x)))
answer_grows t kind x root depth (Some test) is = same_devices most_output t t refl
answer_grows t kind x root depth None is = effect_grows t (call_of kind x) (named_accepted kind x root depth is)

reading_grows : (t : Top) (o : Option Kind) (x : List ℕ) (root : Bool) (depth : ℕ) → Writes t (by_reading t (read_as o x root depth))
reading_grows t None x root depth = same_devices most_output t t refl
reading_grows t (Some kind) x root depth = answer_grows t kind x root depth (first_failing kind x root depth) refl

outcome_grows : (levels : ℕ) (t : Top) (o : Outcome) → Writes t (after_outcome levels t o)
outcome_grows levels t (goes r) = same_devices most_output t t refl
outcome_grows levels t (stores r at width value) = same_devices most_output t t refl
outcome_grows levels t calls = reading_grows t (kind_of (argument t.registers.x 7)) t.registers.x (has_devices t.devices) (greatest_depth - levels)
outcome_grows levels t (traps number value) = same_devices most_output t t refl

-- what follows an event
abbrev MovesOn : Top → NextEvent → Type 0
MovesOn t rests = Unit {0}
MovesOn t (moves u) = HasGrown most_output t u
MovesOn t (meets k u) = Unit {0}

charged_grows : (t : Top) (m : Effect) → Writes t m → MovesOn t (charge t m)
charged_grows t (becomes u) h = h
charged_grows t (asks k) h = tt

instruction_grows : (levels : ℕ) (t : Top) → MovesOn t (charge t (instruction levels t))
instruction_grows levels t = charged_grows t (instruction levels t) (outcome_grows levels t (outcome (view_of t.memory) t.registers))

limited_grows : (levels : ℕ) (t : Top) (o : Option ℕ) → MovesOn t (by_limit_left levels t o)
limited_grows levels t (Some zero) = same_devices most_output t t refl
limited_grows levels t (Some (suc n)) = instruction_grows levels t
limited_grows levels t None = instruction_grows levels t

fuelled_grows : (levels : ℕ) (t : Top) (n : ℕ) → MovesOn t (by_fuel_left levels t n)
fuelled_grows levels t zero = same_devices most_output t t refl
fuelled_grows levels t (suc n) = limited_grows levels t t.limit

status_grows : (levels : ℕ) (t : Top) (s : Status) → MovesOn t (by_status levels t s)
status_grows levels t Running = fuelled_grows levels t t.fuel
status_grows levels t (Stopped cause value) = tt

next_grows : (levels : ℕ) (t : Top) → MovesOn t (next levels t)
unfolding next
next_grows levels t = status_grows levels t t.status

-- a local event
pub event_grows : (levels : ℕ) (t u : Top) → next levels t ≡ moves u → Grows most_output (console_bytes t.devices) (console_bytes u.devices)
event_grows levels t u e = subst (MovesOn t) e (next_grows levels t)

-- so many of them
pub follows_grows : (levels n : ℕ) (t u : Top) → Follows levels n t u → Grows (n * most_output) (console_bytes t.devices) (console_bytes u.devices)
follows_grows levels zero t u f = same_devices 0 t u (ap (λ (v : Top). v.devices) f)
follows_grows levels (suc n) t u f =
    let both = grows_then most_output (n * most_output) (console_bytes t.devices) (console_bytes f.0.devices) (console_bytes u.devices)
    (event_grows levels t f.0 f.1) (follows_grows levels n f.0 u f.2) in
    subst (λ most. Grows most (console_bytes t.devices) (console_bytes u.devices)) (omega arith) both

-- a call that meets children leaves its caller's devices
pub meet_devices : (levels : ℕ) (k : Call) (u : Top) (cs : Children) → (top_of (meet levels k u cs)).devices ≡ u.devices
meet_devices levels k u cs = (meeting_alike levels k u (seen_of (awaits k) cs)).devices

pub call_devices : (levels : ℕ) (t u : Top) (k : Call) (cs : Children) → next levels t ≡ meets k u → (top_of (meet levels k u cs)).devices ≡ t.devices
call_devices levels t u k cs is = meet_devices levels k u cs ∙ ap (λ (v : Top). v.devices) (next_meets levels t k u is).paid

-- what a space has written, and what it has written once it has run, or has settled
abbrev BeginsWith : List ℕ → List ℕ → Type 0
BeginsWith now before = (more : List ℕ) × (now ≡ before ++ more)

begins_then : (xs ys zs : List ℕ) → BeginsWith ys xs → BeginsWith zs ys → BeginsWith zs xs
begins_then xs ys zs a b = (a.0 ++ b.0, b.1 ∙ ap (λ l. l ++ b.0) a.1 ∙ append_assoc xs a.0 b.0)

abbrev Begins : Space → Space → Type 0
Begins r s = BeginsWith (console_bytes (top_of r).devices) (console_bytes (top_of s).devices)

begins_same : (s r : Space) → (top_of r).devices ≡ (top_of s).devices → Begins r s
begins_same s r e = ([], ap console_bytes e ∙ sym (append-nil (console_bytes (top_of s).devices)))

run_begins : (f : Meaning) (levels n : ℕ) (s : Space) → Begins (run_for f levels n s).space s
unfolding run_for
run_begins f levels zero s = begins_same s s refl
run_begins f levels (suc n) (space t cs) = go (next levels t) refl (run_begins f levels n)
  where
    go : (x : NextEvent) → next levels t ≡ x → ((r : Space) → Begins (run_for f levels n r).space r) → Begins (go_on levels x (space t cs) f (run_for f levels n)).space (space t cs)
    go rests e rec = begins_same (space t cs) (space t cs) refl
    go (moves u) e rec =
        let one = event_grows levels t u e in
        begins_then (console_bytes t.devices) (console_bytes u.devices) _ (one.0, one.1.1) (rec (space u cs))
    go (meets k u) e rec =
        let ds = (wait_for f (awaits k) cs).children in
        let r = meet levels k u ds in
        begins_then (console_bytes t.devices) (console_bytes (top_of r).devices) _ (begins_same (space t cs) r (call_devices levels t u k ds e)) (rec r)

-- what a tree settles to has written what its root has written, and maybe more behind it
pub settled_begins : (s : Space) → (more : List ℕ) × (console_bytes (top_of (settle_tree s)).devices ≡ console_bytes (top_of s).devices ++ more)
unfolding meaning
settled_begins s = run_begins (meaning 7) 8 (suc (top_of s).fuel) s
