-- The bytes of a source, by their codes in ASCII, and its lines, which are those of any text, with the carriage returns at their ends.
-- Our choice: which bytes are blanks, which stand in labels, and which begin a comment; what ends a line.
use Rattle.std.specs.Prelude.{ℕ, Bool, not, ◌&&◌, ◌||◌, ◌==◌, nat_lt}
pub use Rattle.text_lines.specs.Lines.{add_first}
unfoldable pub use Rattle.text_lines.specs.Lines.{lines_with_returns as lines_of}

abbrev pub is_between : ℕ → ℕ → ℕ → Bool
is_between low high b = not (nat_lt b low) && not (nat_lt high b)

-- 0 to 9
abbrev pub is_digit : ℕ → Bool
is_digit b = is_between 48 57 b

-- A to Z, a to z and _
abbrev pub is_letter : ℕ → Bool
is_letter b = is_between 65 90 b || is_between 97 122 b || (b == 95)

-- a space or a tab
abbrev pub is_blank : ℕ → Bool
is_blank b = (b == 32) || (b == 9)

-- ; or #
abbrev pub is_comment : ℕ → Bool
is_comment b = (b == 59) || (b == 35)

-- a blank, a comma or a parenthesis
abbrev pub is_word_end : ℕ → Bool
is_word_end b = is_blank b || (b == 44) || (b == 40) || (b == 41)

-- no byte of ASCII
abbrev pub is_foreign : ℕ → Bool
is_foreign b = nat_lt 127 b
