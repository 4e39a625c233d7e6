-- The numbers that devices give.
use Rattle.std.proofs.Common.{◌≡◌, ℕ, suc, List, [], ◌∷◌, ◌++◌, length, drop, Option, Some, None, refl, sym, ap, ap₂, ◌∙◌, arith}
use Rattle.std.specs.Prelude.{option_to_list}
use Rattle.device_model.specs.Devices.{Devices}
use Rattle.space_model.specs.Space.{Top}
use Rattle.space_model.specs.Change.{after_success, after_error, with_count, after_payment}
use Rattle.space_model.specs.Event.{moves, charge, with_devices, next_number, clock, random}
use Rattle.root_device.specs.Calls.{after_number}

-- the next number, by what a queue gave and what is left in it
number_told : (t u : Top) (ns rest : List ℕ) (o : Option ℕ) (left : List ℕ → Devices) → t.devices ≡ Some (left ns) → ns ≡ option_to_list o ++ rest → rest ≡ drop 1 ns
    → u ≡ after_number o (record t { devices = Some (left rest) }) → u ≡ next_number t ns left
number_told t u [] rest None left is split off e = e ∙ ap (λ (o : Option Devices). after_error 1 (with_count 0 (record t { devices = o }))) (ap (λ (l : List ℕ). Some (left l)) off ∙ sym is)
number_told t u (n ∷ ns) rest None left is split off e = let long : suc (length ns) ≡ length ns = ap length (split ∙ off) in absurd (omega (arith, long))
number_told t u [] rest (Some k) left is split off e = absurd cc
number_told t u (n ∷ ns) rest (Some k) left is split off e =
    let same : k ≡ n = cc in
    e ∙ ap₂ (λ (a : ℕ) (l : List ℕ). after_success (with_count a (record t { devices = Some (left l) }))) same off

-- paid for before it is told
number_paid : (o : Option ℕ) (t : Top) → after_number o (after_payment t t) ≡ after_payment t (after_number o t)
number_paid None t = refl
number_paid (Some n) t = refl

-- the same of one that is paid for
paid_number_told : (t u : Top) (ns rest : List ℕ) (o : Option ℕ) (left : List ℕ → Devices) → t.devices ≡ Some (left ns) → ns ≡ option_to_list o ++ rest → rest ≡ drop 1 ns
    → u ≡ after_number o (after_payment (record t { devices = Some (left rest) }) (record t { devices = Some (left rest) })) → after_payment t (next_number t ns left) ≡ u
paid_number_told t u ns rest o left is split off e =
    let w : Top = record t { devices = Some (left rest) } in
    ap (after_payment t) (sym (number_told t (after_number o w) ns rest o left is split off refl)) ∙ sym (e ∙ number_paid o w)

pub clock_told : (t u : Top) (d : Devices) (rest : List ℕ) (o : Option ℕ) → t.devices ≡ Some d → d.clocks ≡ option_to_list o ++ rest → rest ≡ drop 1 d.clocks
    → u ≡ after_number o (after_payment (record t { devices = Some (record d { clocks = rest }) }) (record t { devices = Some (record d { clocks = rest }) })) → charge t (clock t d) ≡ moves u
clock_told t u d rest o is split off e = ap moves (paid_number_told t u d.clocks rest o (λ ns. record d { clocks = ns }) is split off e)

pub random_told : (t u : Top) (d : Devices) (rest : List ℕ) (o : Option ℕ) → t.devices ≡ Some d → d.numbers ≡ option_to_list o ++ rest → rest ≡ drop 1 d.numbers
    → u ≡ after_number o (after_payment (record t { devices = Some (record d { numbers = rest }) }) (record t { devices = Some (record d { numbers = rest }) })) → charge t (random t d) ≡ moves u
random_told t u d rest o is split off e = ap moves (paid_number_told t u d.numbers rest o (λ ns. record d { numbers = ns }) is split off e)

-- the same of a space whose devices are there
pub clock_given : (t u : Top) (d : Devices) (rest : List ℕ) (o : Option ℕ) → t.devices ≡ Some d → d.clocks ≡ option_to_list o ++ rest → rest ≡ drop 1 d.clocks
    → u ≡ after_number o (after_payment (record t { devices = Some (record d { clocks = rest }) }) (record t { devices = Some (record d { clocks = rest }) }))
    → charge t (with_devices t t.devices (clock t)) ≡ moves u
clock_given t u d rest o is split off e = ap (λ (ds : Option Devices). charge t (with_devices t ds (clock t))) is ∙ clock_told t u d rest o is split off e

pub random_given : (t u : Top) (d : Devices) (rest : List ℕ) (o : Option ℕ) → t.devices ≡ Some d → d.numbers ≡ option_to_list o ++ rest → rest ≡ drop 1 d.numbers
    → u ≡ after_number o (after_payment (record t { devices = Some (record d { numbers = rest }) }) (record t { devices = Some (record d { numbers = rest }) }))
    → charge t (with_devices t t.devices (random t)) ≡ moves u
random_given t u d rest o is split off e = ap (λ (ds : Option Devices). charge t (with_devices t ds (random t))) is ∙ random_told t u d rest o is split off e
