-- A schedule read line by line, up to the first line that is outside the grammar.
-- Our choice: a restatement for proofs, which the laws determine.
-- Laws: crates/schedule_model/src/laws.rt
use Rattle.std.specs.Prelude.{ℕ, ◌==◌, nat_le, List, [], ◌∷◌, length, Option, Some, None, option_map, Result, if◌then◌else◌}
use Rattle.std.specs.List.{slice_split}
use Rattle.call_model.specs.Limits.{greatest_child, greatest_depth}
use Rattle.schedule_model.specs.declared.error.ScheduleError.{ScheduleError}
use Rattle.schedule_model.specs.Schedule.{Item, Nothing, Next, most_digits, paths_from}
use Rattle.text_lines.specs.Reading.{number_of, value_of}

-- ---- one line

-- a number, and then the numbers behind it
abbrev pub with_number : Option ℕ → Option (List ℕ) → Option (List ℕ)
with_number None others = None
with_number (Some n) others = option_map (λ path. n ∷ path) others

unfoldable pub numbers_of : List (List ℕ) → Option (List ℕ)
numbers_of [] = Some []
numbers_of (digits ∷ others) = with_number (number_of most_digits greatest_child digits) (numbers_of others)

-- no path is longer
abbrev pub at_most_eight : List ℕ → Option (List ℕ)
at_most_eight path = if nat_le (length path) greatest_depth then Some path else None

abbrev pub and_short : Option (List ℕ) → Option (List ℕ)
and_short None = None
and_short (Some path) = at_most_eight path

-- the path behind the `/` at a line's front: nothing, or numbers with `/` between them
unfoldable pub path_of : List ℕ → Option (List ℕ)
path_of [] = Some []
path_of (b ∷ bs) = and_short (numbers_of (slice_split (λ c. c == 47) (b ∷ bs)))

unfoldable pub item_of : List ℕ → Option Item
item_of [] = Some Nothing
item_of (b ∷ bs) = if b == 35 then Some Nothing else if b == 47 then option_map (λ path. Next path) (path_of bs) else None

-- ---- all lines

-- the paths of a schedule, or the first line that is refused
unfoldable pub schedule_of : List ℕ → Result (List (List ℕ)) ScheduleError
schedule_of bytes = value_of item_of paths_from (λ number. record { line = number }) bytes
