-- Numbers, and texts in which each line says an item, read line by line up to the first line that is refused.
-- Our choice: a restatement for proofs, which says the same as functions.
use Rattle.std.specs.Prelude.{ℕ, ◌+◌, Bool, ◌&&◌, nat_lt, nat_le, List, [], ◌∷◌, length, Option, Some, None, Result, Ok, Err, if◌then◌else◌}
use Rattle.std.specs.Result.{result_map_both}
use Rattle.std.specs.Str.{all_ascii_digits}
use Rattle.std.specs.Str.Parse.{digits_value}
use Rattle.text_lines.specs.Lines.{lines_of}

-- ---- numbers

abbrev pub is_number : ℕ → ℕ → List ℕ → Bool
is_number most bound digits =
    nat_lt 0 (length digits) && nat_le (length digits) most && all_ascii_digits digits && nat_le (digits_value 10 digits) bound

unfoldable pub number_of : ℕ → ℕ → List ℕ → Option ℕ
number_of most bound digits = if is_number most bound digits then Some (digits_value 10 digits) else None

-- ---- all lines, where a function reads one

-- a line of this number, and then the lines behind it
abbrev pub with_line : {A : Type 0} → ℕ → Option A → Result (List A) ℕ → Result (List A) ℕ
with_line number None others = Err number
with_line number (Some i) (Ok is) = Ok (i ∷ is)
with_line number (Some i) (Err n) = Err n

-- what lines say, of which the first has this number, or the first number that is refused
unfoldable pub items_of : {A : Type 0} → (List ℕ → Option A) → ℕ → List (List ℕ) → Result (List A) ℕ
items_of item_of number [] = Ok []
items_of item_of number (l ∷ ls) = with_line number (item_of l) (items_of item_of (number + 1) ls)

-- what the lines of the bytes make together, or what is made of the first number that is refused
abbrev pub value_of : {A X E : Type 0} → (List ℕ → Option A) → (List A → X) → (ℕ → E) → List ℕ → Result X E
value_of item_of make refuse bytes = result_map_both make refuse (items_of item_of 1 (lines_of bytes))
