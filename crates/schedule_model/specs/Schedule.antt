-- Schedules: what a line says, which paths all lines make, and which line is the first that is refused.
-- Our choice: the grammar.
use Rattle.std.specs.Prelude.{◌≡◌, ℕ, ◌≤◌, List, [], ◌∷◌, ◌++◌, length, codes}
use Rattle.std.specs.List.{AllZip, flat_map}
use Rattle.call_model.specs.Limits.{greatest_child, greatest_depth}
use Rattle.text_lines.specs.Items as texts
use Rattle.text_lines.specs.Items.{IsTextOf}
use Rattle.text_lines.specs.Lines.{SaysNothing}
use Rattle.text_lines.specs.Numbers.{IsNumber}

-- what a line may say: nothing, or whose event comes next
pub data Item : Type 0 where
  Nothing : Item
  Next : List ℕ → Item

-- ---- one line

-- the most digits of a number, zeros at the front among them
abbrev pub most_digits : ℕ
most_digits = 5

-- the digits of each number, each one that a child may have
abbrev pub AreNumbers : List (List ℕ) → List ℕ → Type 0
AreNumbers numbers path = AllZip (IsNumber most_digits greatest_child) numbers path

-- `/` alone is the root; one to eight parts, each `/` and a number, lead to any other space
abbrev pub IsPath : List ℕ → List ℕ → Type 0
IsPath line [] = line ≡ codes "/"
IsPath line (n ∷ path) = (length (n ∷ path) ≤ greatest_depth)
    × (numbers : List (List ℕ)) × (line ≡ flat_map (λ digits. codes "/" ++ digits) numbers) × AreNumbers numbers (n ∷ path)

-- the line says this
abbrev pub Says : List ℕ → Item → Type 0
Says line Nothing = SaysNothing line
Says line (Next path) = IsPath line path

-- ---- all lines

abbrev pub paths_in : Item → List (List ℕ)
paths_in Nothing = []
paths_in (Next path) = path ∷ []

-- the paths of all items, in their order
abbrev pub paths_from : List Item → List (List ℕ)
paths_from items = flat_map paths_in items

-- the bytes are a schedule of these paths
abbrev pub ScheduleOf : List ℕ → List (List ℕ) → Type 0
ScheduleOf bytes paths = IsTextOf Says paths_from bytes paths

-- the line of this number, counted from 1, is the first that says none of these
abbrev pub IsFirstRefused : List ℕ → ℕ → Type 0
IsFirstRefused bytes number = texts.IsFirstRefused Says bytes number
