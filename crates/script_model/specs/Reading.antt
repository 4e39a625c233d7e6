-- A script read line by line, up to the first line that is outside the grammar.
-- Our choice: a restatement for proofs, which the laws determine.
-- Laws: crates/script_model/src/laws.rt
use Rattle.std.specs.Prelude.{ℕ, Bool, ◌&&◌, ◌==◌, nat_lt, List, [], ◌∷◌, ◌++◌, Option, Some, None, option_map, Result, if◌then◌else◌, codes}
use Rattle.std.specs.Char.{digit_value}
use Rattle.std.specs.Str.{bytes_eq}
use Rattle.script_model.specs.declared.error.ScriptError.{ScriptError}
use Rattle.device_model.specs.Devices.{Devices}
use Rattle.script_model.specs.Script.{Item, Nothing, Input, Clock, Random, byte_of, most_digits, greatest_number, devices_from}
use Rattle.text_lines.specs.Reading.{number_of, value_of}

-- ---- one line

-- what follows a word at the front of a line
unfoldable pub after : List ℕ → List ℕ → Option (List ℕ)
after [] line = Some line
after (w ∷ ws) [] = None
after (w ∷ ws) (b ∷ bs) = if b == w then after ws bs else None

abbrev pub is_hex_digit : ℕ → Bool
is_hex_digit d = nat_lt (digit_value d) 16

unfoldable pub bytes_of : List ℕ → Option (List ℕ)
bytes_of [] = Some []
bytes_of (high ∷ []) = None
bytes_of (high ∷ low ∷ digits) =
    if is_hex_digit high && is_hex_digit low then option_map (λ bytes. byte_of high low ∷ bytes) (bytes_of digits) else None

-- one pair of digits or more
abbrev pub raw_of : List ℕ → Option Item
raw_of [] = None
raw_of (d ∷ digits) = option_map (λ bytes. Input bytes) (bytes_of (d ∷ digits))

-- what a line says that has no word with a space behind it
abbrev pub short_of : List ℕ → Option Item
short_of [] = Some Nothing
short_of (b ∷ bs) = if b == 35 then Some Nothing else if bytes_eq (b ∷ bs) (codes "in") then Some (Input (10 ∷ [])) else None

-- where the line begins with the word, what the rest says, and else the other
abbrev pub or_else : Option (List ℕ) → (List ℕ → Option Item) → Option Item → Option Item
or_else (Some rest) said other = said rest
or_else None said other = other

unfoldable pub item_of : List ℕ → Option Item
item_of line =
    or_else (after (codes "in ") line) (λ text. Some (Input (text ++ 10 ∷ [])))
    (or_else (after (codes "raw ") line) raw_of
    (or_else (after (codes "clock ") line) (λ digits. option_map (λ n. Clock n) (number_of most_digits greatest_number digits))
    (or_else (after (codes "rand ") line) (λ digits. option_map (λ n. Random n) (number_of most_digits greatest_number digits))
    (short_of line))))

-- ---- all lines

-- the devices of a script, or the first line that is refused
unfoldable pub script_of : List ℕ → Result Devices ScriptError
script_of bytes = value_of item_of devices_from (λ number. record { line = number }) bytes
