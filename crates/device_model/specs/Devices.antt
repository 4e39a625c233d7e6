-- Devices: what is left of the bytes that a console gives, of the readings of a clock and of the random numbers, and what was
-- written to the console.
-- Our choice: which devices there are.
use Rattle.std.specs.Prelude.{ℕ, List, refl}
use Rattle.std.specs.Coded.{Coded, coded_ℕ, coded_list, coded×, code_by}

-- each in its order, the first first; numbers are the random ones
pub record Devices : Type 0 where
  pub input : List ℕ
  pub clocks : List ℕ
  pub numbers : List ℕ
  pub console : List ℕ

abbrev pub coded_devices : Coded Devices
coded_devices = code_by (List ℕ × (List ℕ × (List ℕ × List ℕ))) (coded× (coded_list coded_ℕ) (coded× (coded_list coded_ℕ) (coded× (coded_list coded_ℕ) (coded_list coded_ℕ))))
    (λ d. (d.input, (d.clocks, (d.numbers, d.console)))) (λ p. record { input = p.0; clocks = p.1.0; numbers = p.1.1.0; console = p.1.1.1 }) (λ _. refl)
