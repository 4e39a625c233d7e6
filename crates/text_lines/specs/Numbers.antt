-- Decimal numbers in a line.
-- Our choice: that a number is digits alone, and that zeros at the front count among them.
use Rattle.std.specs.Prelude.{◌≡◌, ℕ, ◌<◌, ◌≤◌, true, List, length}
use Rattle.std.specs.Str.{all_ascii_digits}
use Rattle.std.specs.Str.Parse.{digits_value}

-- 1 to `most` decimal digits, zeros at the front among them, of a number that is at most `bound`
pub record IsNumber (most bound : ℕ) (digits : List ℕ) (n : ℕ) : Type 0 where
  pub some : 0 < length digits
  pub few : length digits ≤ most
  pub decimal : all_ascii_digits digits ≡ true
  pub value : n ≡ digits_value 10 digits
  pub small : n ≤ bound
