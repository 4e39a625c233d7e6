-- The lines of a text: a line feed ends a line, the last line may lack it, and one carriage return at a line's end is no part
-- of the line.
-- Our choice: that the last line may lack its line feed, that a carriage return at the end of any line is dropped, and which lines
-- say nothing.
use Rattle.std.specs.Prelude.{◌≡◌, ◌≢◌, ℕ, ◌⊎◌, List, [], ◌∷◌, ◌++◌, map, ◌==◌, codes, if◌then◌else◌}
use Rattle.std.specs.List.{AllByRecursion, flat_map}
use Rattle.std.specs.Str.Lines.{strip_carriage_return}

-- the lines with a byte more at the front of the first
abbrev pub add_first : ℕ → List (List ℕ) → List (List ℕ)
add_first b [] = (b ∷ []) ∷ []
add_first b (l ∷ ls) = (b ∷ l) ∷ ls

-- the lines with the carriage returns at their ends
unfoldable pub lines_with_returns : List ℕ → List (List ℕ)
lines_with_returns [] = []
lines_with_returns (b ∷ bs) = if b == 10 then [] ∷ lines_with_returns bs else add_first b (lines_with_returns bs)

abbrev pub lines_of : List ℕ → List (List ℕ)
lines_of text = map strip_carriage_return (lines_with_returns text)

-- an empty line, or one that begins with `#`
abbrev pub SaysNothing : List ℕ → Type 0
SaysNothing line = (line ≡ []) ⊎ ((text : List ℕ) × (line ≡ codes "#" ++ text))

-- ---- texts, by their lines

abbrev pub HasNoFeed : List ℕ → Type 0
HasNoFeed line = AllByRecursion (λ b. b ≢ 10) line

-- lines that line feeds end, and then a last part that lacks one
abbrev pub text_of : List (List ℕ) → List ℕ → List ℕ
text_of lines last = flat_map (λ line. line ++ 10 ∷ []) lines ++ last

-- an empty last part is no line
abbrev pub last_line_of : List ℕ → List (List ℕ)
last_line_of [] = []
last_line_of (b ∷ bs) = (b ∷ bs) ∷ []
