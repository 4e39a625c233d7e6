-- Calls of devices that leave the memory of their space as it is.
use Rattle.std.proofs.Common.{◌≡◌, ℕ, Option, Some, None, List, [], ◌∷◌, refl, ap, ◌∙◌}
use Rattle.memory_model.specs.Memory.{may_read, first_without}
use Rattle.device_model.specs.Devices.{Devices}
use Rattle.space_model.specs.Space.{Top}
use Rattle.space_model.specs.Change.{after_payment}
use Rattle.space_model.specs.Event.{Effect, becomes, asks, moves, charge, with_devices, output, console_out, next_number, clock, random}

-- an effect leaves memory as it is
abbrev Leaves : Top → Effect → Type 0
Leaves t (becomes u) = u.memory ≡ t.memory
Leaves t (asks k) = ⊥

output_leaves : (t : Top) (d : Devices) (addr len : ℕ) (o : Option ℕ) → Leaves t (output t d addr len o)
output_leaves t d addr len (Some a) = refl
output_leaves t d addr len None = refl

number_leaves : (t : Top) (ns : List ℕ) (left : List ℕ → Devices) → (next_number t ns left).memory ≡ t.memory
number_leaves t [] left = refl
number_leaves t (n ∷ ns) left = refl

with_devices_leaves : (t : Top) (o : Option Devices) (f : Devices → Effect) → ((d : Devices) → Leaves t (f d)) → Leaves t (with_devices t o f)
with_devices_leaves t None f leaves = refl
with_devices_leaves t (Some d) f leaves = leaves d

charged_leaves : (t u : Top) (e : Effect) → Leaves t e → charge t e ≡ moves u → u.memory ≡ t.memory
charged_leaves t u (becomes w) leaves is = let same : u ≡ after_payment t w = cc in ap (λ (x : Top). x.memory) same ∙ leaves
charged_leaves t u (asks k) leaves is = absurd leaves

pub console_out_leaves : (t u : Top) (addr len : ℕ) → charge t (with_devices t t.devices (console_out t addr len)) ≡ moves u → u.memory ≡ t.memory
console_out_leaves t u addr len =
    charged_leaves t u _ (with_devices_leaves t t.devices (console_out t addr len) (λ d. output_leaves t d addr len (first_without (may_read t.memory) addr len)))

pub clock_leaves : (t u : Top) → charge t (with_devices t t.devices (clock t)) ≡ moves u → u.memory ≡ t.memory
clock_leaves t u = charged_leaves t u _ (with_devices_leaves t t.devices (clock t) (λ d. number_leaves t d.clocks (λ ns. record d { clocks = ns })))

pub random_leaves : (t u : Top) → charge t (with_devices t t.devices (random t)) ≡ moves u → u.memory ≡ t.memory
random_leaves t u = charged_leaves t u _ (with_devices_leaves t t.devices (random t) (λ d. number_leaves t d.numbers (λ ns. record d { numbers = ns })))
