-- Scripts: what a line says, which devices all lines make, and which line is the first that is refused.
-- Our choice: the grammar.
use Rattle.std.specs.Prelude.{◌≡◌, ℕ, ◌+◌, ◌-◌, ◌*◌, ◌^◌, ◌<◌, ◌⊎◌, List, [], ◌∷◌, ◌++◌, length, codes}
use Rattle.std.specs.Char.{digit_value}
use Rattle.std.specs.List.{flat_map}
use Rattle.device_model.specs.Devices.{Devices}
use Rattle.text_lines.specs.Items as texts
use Rattle.text_lines.specs.Items.{IsTextOf}
use Rattle.text_lines.specs.Lines.{SaysNothing}
use Rattle.text_lines.specs.Numbers.{IsNumber}

-- what a line may say: nothing, bytes for the input, a reading of the clock, a random number
pub data Item : Type 0 where
  Nothing : Item
  Input : List ℕ → Item
  Clock : ℕ → Item
  Random : ℕ → Item

-- ---- one line

-- `in` alone or `in TEXT`: the text, whatever it is, and a line feed
abbrev pub IsText : List ℕ → List ℕ → Type 0
IsText line bytes = ((line ≡ codes "in") × (bytes ≡ 10 ∷ []))
    ⊎ ((text : List ℕ) × (line ≡ codes "in " ++ text) × (bytes ≡ text ++ 10 ∷ []))

-- the byte that two hexadecimal digits write, the high one first
abbrev pub byte_of : ℕ → ℕ → ℕ
byte_of high low = 16 * digit_value high + digit_value low

-- two hexadecimal digits of either case for each byte
abbrev pub ArePairs : List ℕ → List ℕ → Type 0
ArePairs [] [] = Unit {0}
ArePairs (high ∷ low ∷ digits) (b ∷ bytes) = (digit_value high < 16) × (digit_value low < 16)
    × (b ≡ byte_of high low) × ArePairs digits bytes
ArePairs digits bytes = ⊥

-- `raw HEX`: one pair or more
abbrev pub IsRaw : List ℕ → List ℕ → Type 0
IsRaw line bytes = (digits : List ℕ) × (line ≡ codes "raw " ++ digits) × (0 < length bytes) × ArePairs digits bytes

-- the most digits of a number, zeros at the front among them
abbrev pub most_digits : ℕ
most_digits = 10

-- the greatest number, of 32 bits
abbrev pub greatest_number : ℕ
greatest_number = 2 ^ 32 - 1

-- the line says this
abbrev pub Says : List ℕ → Item → Type 0
Says line Nothing = SaysNothing line
Says line (Input bytes) = IsText line bytes ⊎ IsRaw line bytes
Says line (Clock n) = (digits : List ℕ) × (line ≡ codes "clock " ++ digits) × IsNumber most_digits greatest_number digits n
Says line (Random n) = (digits : List ℕ) × (line ≡ codes "rand " ++ digits) × IsNumber most_digits greatest_number digits n

-- ---- all lines

abbrev pub input_in : Item → List ℕ
input_in (Input bytes) = bytes
input_in i = []

abbrev pub clocks_in : Item → List ℕ
clocks_in (Clock n) = n ∷ []
clocks_in i = []

abbrev pub numbers_in : Item → List ℕ
numbers_in (Random n) = n ∷ []
numbers_in i = []

-- what all items together give, with nothing on the console
abbrev pub devices_from : List Item → Devices
devices_from items = record { input = flat_map input_in items; clocks = flat_map clocks_in items; numbers = flat_map numbers_in items; console = [] }

-- the bytes are a script of these devices
abbrev pub ScriptOf : List ℕ → Devices → Type 0
ScriptOf bytes d = IsTextOf Says devices_from bytes d

-- the line of this number, counted from 1, is the first that says none of these
abbrev pub IsFirstRefused : List ℕ → ℕ → Type 0
IsFirstRefused bytes number = texts.IsFirstRefused Says bytes number
