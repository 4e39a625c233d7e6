-- The events of the console, by what stops the space, or by what was told.
use Rattle.std.proofs.Common.{◌≡◌, ℕ, List, length, take, drop, min, ◌≤◌, Some, None, sym, ap, ◌∙◌, arith}
use Rattle.std.proofs.lemmas.List.{length-take}
use Rattle.memory_model.specs.Memory.{may_read, may_write, bytes_from, first_without, with_bytes}
use Rattle.device_model.specs.Devices.{Devices}
use Rattle.space_model.specs.declared.Cause.TheVariants.{Badcall, LoadFault, StoreFault}
use Rattle.space_model.specs.Space.{Top}
use Rattle.space_model.specs.Change.{stop, after_success, with_count, after_payment}
use Rattle.space_model.specs.Event.{Effect, moves, charge, with_devices, with_output, output, console_out, input, console_in}

-- a space without devices
pub refused : (t u : Top) (f : Devices → Effect) → t.devices ≡ None → u ≡ stop (after_payment t t) Badcall 6 → charge t (with_devices t t.devices f) ≡ moves u
refused t u f none e = ap (λ o. charge t (with_devices t o f)) none ∙ ap moves (sym e)

with_them : (t : Top) (d : Devices) (f : Devices → Effect) → t.devices ≡ Some d → charge t (with_devices t t.devices f) ≡ charge t (f d)
with_them t d f some = ap (λ o. charge t (with_devices t o f)) some

-- a byte that may not be read
pub output_stops : (t u : Top) (d : Devices) (addr len a : ℕ) → t.devices ≡ Some d → first_without (may_read t.memory) addr len ≡ Some a → u ≡ stop (after_payment t t) LoadFault a
    → charge t (with_devices t t.devices (console_out t addr len)) ≡ moves u
output_stops t u d addr len a some at e = with_them t d (console_out t addr len) some ∙ ap (λ o. charge t (output t d addr len o)) at ∙ ap moves (sym e)

-- the bytes were appended
pub output_told : (t u v : Top) (d : Devices) (addr len : ℕ) → t.devices ≡ Some d → first_without (may_read t.memory) addr len ≡ None → v ≡ with_output t d (bytes_from t.memory addr len)
    → u ≡ after_success (after_payment v v) → charge t (with_devices t t.devices (console_out t addr len)) ≡ moves u
output_told t u v d addr len some none told e =
    with_them t d (console_out t addr len) some ∙ ap (λ o. charge t (output t d addr len o)) none ∙ ap moves (sym (e ∙ ap (λ w. after_success (after_payment w w)) told))

-- a byte of the buffer that may not be written
pub input_stops : (t u : Top) (d : Devices) (addr len a : ℕ) → t.devices ≡ Some d → first_without (may_write t.memory) addr len ≡ Some a → u ≡ stop (after_payment t t) StoreFault a
    → charge t (with_devices t t.devices (console_in t addr len)) ≡ moves u
input_stops t u d addr len a some at e = with_them t d (console_in t addr len) some ∙ ap (λ o. charge t (input t d addr len o)) at ∙ ap moves (sym e)

-- a space after input has moved to its buffer
abbrev moved : Top → Devices → ℕ → ℕ → Top
moved t d addr len = record t { memory = with_bytes t.memory addr (take len d.input); devices = Some (record d { input = drop len d.input }) }

-- the bytes went into the buffer, and were counted
pub input_told : (t u v w : Top) (d : Devices) (addr len n : ℕ) → t.devices ≡ Some d → first_without (may_write t.memory) addr len ≡ None → n ≡ length (take len d.input)
    → v ≡ record t { memory = with_bytes t.memory addr (take len d.input); devices = Some (record d { input = drop len d.input }) } → w ≡ after_payment v v → u ≡ after_success (with_count n w)
    → charge t (with_devices t t.devices (console_in t addr len)) ≡ moves u
input_told t u v w d addr len n some none counted told paid e =
    let done : u ≡ after_success (with_count (length (take len d.input)) (after_payment (moved t d addr len) (moved t d addr len))) =
    e ∙ ap (λ k. after_success (with_count k w)) counted ∙ ap (λ x. after_success (with_count (length (take len d.input)) x)) (paid ∙ ap (λ x. after_payment x x) told) in
    with_them t d (console_in t addr len) some ∙ ap (λ o. charge t (input t d addr len o)) none ∙ ap moves (sym done)

-- no more bytes are taken than there is room for
pub taken_within : (n : ℕ) (l : List ℕ) → length (take n l) ≤ n
taken_within n l = let long : length (take n l) ≡ min n (length l) = length-take n l in omega (arith, long)
