-- What stands in a text where no address has a name.
use Rattle.std.proofs.Common.{◌≡◌, ℕ, Bool, true, false, cond, List, [], ◌∷◌, ◌++◌, map, Option, Some, None, refl, ◌∙◌, ap}
use Rattle.std.specs.Prelude.{option_and_then}
use Rattle.std.specs.List.{join_with_byte}
use Rattle.std.proofs.lemmas.List.{append-nil}
use Rattle.std.proofs.lemmas.List.Splits.{join_with_byte-slice_split}
use Rattle.symbols.specs.Symbols.{Place, place_at}
use Rattle.explain_lines.specs.Names.{address_of, is_before_address, named, named_line, named_word, named_words, place_part}
use Rattle.explain_lines.specs.Pieces.{pieces}

no_place : (o : Option ℕ) → option_and_then (place_at []) o ≡ None
unfolding place_at
no_place None = refl
no_place (Some a) = refl

none_either_way : (b : Bool) (o : Option Place) → o ≡ None → place_part (cond b o None) ≡ []
none_either_way true o e = ap place_part e
none_either_way false o e = refl

word_stays : (before word : List ℕ) → named_word [] before word ≡ word
word_stays before word = ap (λ (t : List ℕ). word ++ t) (none_either_way (is_before_address before) (option_and_then (place_at []) (address_of word)) (no_place (address_of word))) ∙ append-nil word

words_stay : (before : List ℕ) (words : List (List ℕ)) → named_words [] before words ≡ words
words_stay before [] = refl
words_stay before (w ∷ ws) = rw word_stays (ap (λ (x : List (List ℕ)). w ∷ x) (words_stay w ws))

line_stays : (line : List ℕ) → named_line [] line ≡ line
unfolding named_line
line_stays line = ap (join_with_byte 32) (words_stay [] (pieces 32 line)) ∙ join_with_byte-slice_split 32 line

lines_stay : (lines : List (List ℕ)) → map (named_line []) lines ≡ lines
lines_stay [] = refl
lines_stay (l ∷ ls) = rw line_stays (ap (λ (x : List (List ℕ)). l ∷ x) (lines_stay ls))

pub unnamed : (text : List ℕ) → named [] text ≡ text
unfolding named
unnamed text = ap (join_with_byte 10) (lines_stay (pieces 10 text)) ∙ join_with_byte-slice_split 10 text
