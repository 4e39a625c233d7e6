-- Where a text is cut at the first byte that separates its pieces.
use Rattle.std.proofs.Common.{◌≡◌, ℕ, ◌+◌, ◌<◌, true, false, List, [], ◌∷◌, length, get_or, take, drop, sym, ◌∙◌, ap, arith}
use Rattle.std.specs.Prelude.{◌==◌}
use Rattle.std.specs.List.{after_first, before_first, position_or_len}
use Rattle.std.proofs.Math.ListN.{drop_of_length-le}
use Rattle.std.proofs.Math.Seq.{take-length}
use Rattle.std.proofs.lemmas.List.{get_or_default}
use Rattle.std.proofs.lemmas.List.Sums.{position_or_len_is}
use Rattle.std.proofs.lemmas.List.Splits.{slice_split_first, slice_split_none}
use Rattle.explain_lines.specs.Pieces.{is, pieces}

-- no separator stands before this place
abbrev pub NoneBelow : ℕ → List ℕ → ℕ → Type 0
NoneBelow separator text i = (k : ℕ) → k < i → (get_or text k 0 == separator) ≡ false

-- ---- a separator stands there

first_is : (separator : ℕ) (text : List ℕ) (i : ℕ) → NoneBelow separator text i → i < length text → (get_or text i 0 == separator) ≡ true → position_or_len (is separator) text ≡ i
first_is separator text i none lt here = position_or_len_is (is separator) text i 0 (omega arith) none (λ _. here)

pub first_before : (separator : ℕ) (text : List ℕ) (i : ℕ) → NoneBelow separator text i → i < length text → (get_or text i 0 == separator) ≡ true → take i text ≡ before_first (is separator) text
first_before separator text i none lt here = ap (λ (k : ℕ). take k text) (sym (first_is separator text i none lt here))

pub first_after : (separator : ℕ) (text : List ℕ) (i : ℕ) → NoneBelow separator text i → i < length text → (get_or text i 0 == separator) ≡ true → drop (i + 1) text ≡ after_first (is separator) text
first_after separator text i none lt here = ap (λ (k : ℕ). drop (k + 1) text) (sym (first_is separator text i none lt here))

pub first_pieces : (separator : ℕ) (text : List ℕ) (i : ℕ) → NoneBelow separator text i → i < length text → (get_or text i 0 == separator) ≡ true
    → pieces separator text ≡ take i text ∷ pieces separator (drop (i + 1) text)
first_pieces separator text i none lt here =
    let at : position_or_len (is separator) text ≡ i = first_is separator text i none lt here in
    slice_split_first (is separator) text 0 (omega (arith, at)) ∙ ap (λ (k : ℕ). take k text ∷ pieces separator (drop (k + 1) text)) at

-- ---- no separator

none_is : (separator : ℕ) (text : List ℕ) → NoneBelow separator text (length text) → position_or_len (is separator) text ≡ length text
none_is separator text none = position_or_len_is (is separator) text (length text) 0 (omega arith) none (λ lt. absurd (omega (arith, lt)))

pub none_before : (separator : ℕ) (text : List ℕ) → NoneBelow separator text (length text) → text ≡ before_first (is separator) text
none_before separator text none = sym (take-length text) ∙ ap (λ (k : ℕ). take k text) (sym (none_is separator text none))

pub none_after : (separator : ℕ) (text : List ℕ) → NoneBelow separator text (length text) → ◌≡◌ {A = List ℕ} [] (after_first (is separator) text)
none_after separator text none = sym (drop_of_length-le text (omega arith)) ∙ ap (λ (k : ℕ). drop (k + 1) text) (sym (none_is separator text none))

pub one_piece : (separator : ℕ) (text : List ℕ) → NoneBelow separator text (length text) → pieces separator text ≡ text ∷ []
one_piece separator text none = slice_split_none (is separator) text (λ k d lt. rw (get_or_default text k d 0 lt) (none k lt))
