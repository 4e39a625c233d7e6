-- The pieces that are left, and what they add to a text, each behind its separator.
use Rattle.std.proofs.Common.{◌≡◌, ℕ, List, [], ◌∷◌, ◌++◌, map, sym, ap, append_assoc}
use Rattle.std.specs.Prelude.{Option}
use Rattle.std.specs.List.{join_with_byte}
use Rattle.std.specs.Option.{option_map_or}
use Rattle.std.proofs.lemmas.List.{append-nil}
use Rattle.symbols.specs.Symbols.{Symbol}
use Rattle.explain_lines.specs.Names.{named, named_line, named_word, named_words}
use Rattle.explain_lines.specs.Pieces.{pieces}

-- the pieces of a rest, if there is one
abbrev pub pieces_of : ℕ → Option (List ℕ) → List (List ℕ)
pieces_of separator rest = option_map_or (pieces separator) rest []

-- texts, each behind a separator
abbrev pub behind : ℕ → List (List ℕ) → List ℕ
behind separator [] = []
behind separator (x ∷ xs) = separator ∷ (x ++ behind separator xs)

pub joined : (separator : ℕ) (x : List ℕ) (xs : List (List ℕ)) → join_with_byte separator (x ∷ xs) ≡ x ++ behind separator xs
joined separator x [] = sym (append-nil x)
joined separator x (y ∷ ys) = ap (λ (t : List ℕ). x ++ separator ∷ t) (joined separator y ys)

-- ---- a line and a text from their first piece on

pub line_begins : (symbols : List Symbol) (line first : List ℕ) (rest : Option (List ℕ)) (old out : List ℕ) → pieces 32 line ≡ first ∷ pieces_of 32 rest → out ≡ old ++ named_word symbols [] first
    → out ++ behind 32 (named_words symbols first (pieces_of 32 rest)) ≡ old ++ named_line symbols line
unfolding named_line
line_begins symbols line first rest old out cut pushed =
    rw (pushed, append_assoc, cut) (ap (λ (t : List ℕ). old ++ t) (sym (joined 32 (named_word symbols [] first) (named_words symbols first (pieces_of 32 rest)))))

pub text_begins : (symbols : List Symbol) (text first : List ℕ) (rest : Option (List ℕ)) (old out : List ℕ) → pieces 10 text ≡ first ∷ pieces_of 10 rest → out ≡ old ++ named_line symbols first
    → out ++ behind 10 (map (named_line symbols) (pieces_of 10 rest)) ≡ old ++ named symbols text
unfolding named
text_begins symbols text first rest old out cut pushed =
    rw (pushed, append_assoc, cut) (ap (λ (t : List ℕ). old ++ t) (sym (joined 10 (named_line symbols first) (map (named_line symbols) (pieces_of 10 rest)))))
