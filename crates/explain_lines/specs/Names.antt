-- The lines of a text, with the name of a place beside each address.
-- Our choice: that an address is eight hexadecimal digits in lower case behind the word `pc` or `at`, and how a place is written.
use Rattle.std.specs.Prelude.{ℕ, Bool, ◌&&◌, ◌||◌, ◌==◌, nat_le, if◌then◌else◌, List, [], ◌∷◌, ◌++◌, length, map, codes, Option, Some, None, option_and_then}
use Rattle.std.specs.Fmt.{decimal}
use Rattle.std.specs.List.{join_with_byte, list_all, zip}
use Rattle.std.specs.Str.{bytes_eq}
use Rattle.std.specs.Str.Parse.{digits_value}
use Rattle.symbols.specs.Symbols.{Place, Symbol, place_at}
use Rattle.explain_lines.specs.Pieces.{pieces}

-- `0` to `9`, `a` to `f`
abbrev pub is_digit : ℕ → Bool
is_digit b = (nat_le 48 b && nat_le b 57) || (nat_le 97 b && nat_le b 102)

-- the address that a word writes, if it writes one
abbrev pub address_of : List ℕ → Option ℕ
address_of word = if (length word == 8) && list_all is_digit word then Some (digits_value 16 word) else None

abbrev pub is_before_address : List ℕ → Bool
is_before_address word = bytes_eq word (codes "pc") || bytes_eq word (codes "at")

-- a place's name, with `+` and how many bytes it is past that, where it is any
abbrev pub place_text : Place → List ℕ
place_text p = p.name ++ (if p.offset == 0 then [] else 43 ∷ decimal p.offset)

-- behind a space, where there is one
abbrev pub place_part : Option Place → List ℕ
place_part None = []
place_part (Some p) = 32 ∷ place_text p

-- the place of the address that a word writes, where it stands behind one of those words
abbrev pub place_behind : List Symbol → List ℕ → List ℕ → Option Place
place_behind symbols before word = if is_before_address before then option_and_then (place_at symbols) (address_of word) else None

-- a word behind another
abbrev pub named_word : List Symbol → List ℕ → List ℕ → List ℕ
named_word symbols before word = word ++ place_part (place_behind symbols before word)

-- words, of which the first stands behind this one
abbrev pub named_words : List Symbol → List ℕ → List (List ℕ) → List (List ℕ)
named_words symbols before words = map (λ p. named_word symbols p.0 p.1) (zip (before ∷ words) words)

-- nothing stands before the first word of a line
unfoldable pub named_line : List Symbol → List ℕ → List ℕ
named_line symbols line = join_with_byte 32 (named_words symbols [] (pieces 32 line))

unfoldable pub named : List Symbol → List ℕ → List ℕ
named symbols text = join_with_byte 10 (map (named_line symbols) (pieces 10 text))
