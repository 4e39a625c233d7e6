-- The pieces of a text round each byte that separates them: lines round line feeds, words round spaces.
-- Our choice: that a separator at an end has an empty piece beyond it.
use Rattle.std.specs.Prelude.{ℕ, Bool, List, ◌==◌}
use Rattle.std.specs.List.{slice_split}

abbrev pub is : ℕ → ℕ → Bool
is separator b = b == separator

-- at least one; joined by the separator they are the text
abbrev pub pieces : ℕ → List ℕ → List (List ℕ)
pieces separator text = slice_split (is separator) text
