-- Numbers: decimal with an optional minus, or 0x and hexadecimal digits.
-- Our choice: how numbers are written.
use Rattle.std.specs.Prelude.{ℕ, ◌+◌, ◌-◌, ◌%◌, ◌^◌, ◌&&◌, ◌||◌, nat_lt, List, length, take, drop, Option, Some, None, option_and_then, option_map, if◌then◌else◌, codes}
use Rattle.std.specs.Char.{digit_value}
use Rattle.std.specs.List.{list_all}
use Rattle.std.specs.Str.{bytes_eq}
use Rattle.std.specs.Str.Parse.{digits_value}

-- what digits of a base write; none where there is no digit, or another byte
abbrev pub digits_in : ℕ → List ℕ → Option ℕ
digits_in base digits = if nat_lt 0 (length digits) && list_all (λ d. nat_lt (digit_value d) base) digits then Some (digits_value base digits) else None

-- no zero stands before other digits
abbrev pub decimal_in : List ℕ → Option ℕ
decimal_in digits = if bytes_eq (take 1 digits) (codes "0") && nat_lt 1 (length digits) then None else digits_in 10 digits

-- how far a number is below 0, and how far above
abbrev pub number_of : List ℕ → Option (ℕ × ℕ)
number_of word =
    if bytes_eq (take 2 word) (codes "0x") then option_map (λ n. (0, n)) (digits_in 16 (drop 2 word))
    else if bytes_eq (take 1 word) (codes "-") then option_map (λ n. (n, 0)) (decimal_in (drop 1 word))
    else option_map (λ n. (0, n)) (decimal_in word)

-- a number that is no farther below 0 nor above it, modulo 2 ^ 32
abbrev pub number_in : ℕ → ℕ → List ℕ → Option ℕ
number_in below above word = option_and_then (λ (n : ℕ × ℕ).
    if nat_lt below n.0 || nat_lt above n.1 then None else Some ((2 ^ 32 - n.0) % 2 ^ 32 + n.1)) (number_of word)

-- a number from 0 on
abbrev pub natural_in : List ℕ → Option ℕ
natural_in word = option_and_then (λ (n : ℕ × ℕ). if nat_lt 0 n.0 then None else Some n.1) (number_of word)
