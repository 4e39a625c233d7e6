-- The bytes of a source as they are read, beside what the definition says of them.
-- Our choice: a restatement for proofs.
use Rattle.std.specs.Prelude.{ℕ, ◌-◌, Bool, true, false, ◌==◌, List, [], ◌∷◌, length, slice_index, take, if◌then◌else◌}
use Rattle.std.specs.Str.{bytes_eq}
unfoldable pub use Rattle.source_model.specs.Ascii.{is_between, is_digit, is_letter, is_blank, is_comment, is_word_end, is_foreign, lines_of}
pub use Rattle.source_model.specs.Ascii.{add_first}

abbrev pub is_empty : List ℕ → Bool
is_empty [] = true
is_empty (b ∷ bs) = false

abbrev pub begins : ℕ → List ℕ → Bool
begins b [] = false
begins b (c ∷ cs) = c == b

unfoldable pub same_text : List ℕ → List ℕ → Bool
same_text a b = bytes_eq a b

-- one carriage return at the end is no part of a line
unfoldable pub without_return : List ℕ → List ℕ
without_return text = if slice_index text (length text - 1) == 13 then take (length text - 1) text else text
