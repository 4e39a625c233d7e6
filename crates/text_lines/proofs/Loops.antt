-- Lines one after the other, as a loop takes them that reads one in each turn.
use Rattle.std.proofs.Common.{◌≡◌, ℕ, ◌+◌, List, [], ◌∷◌, ◌++◌, length, Result, Ok, Err, refl, sym, ap, ◌∙◌, append_assoc, arith}
use Rattle.std.specs.Prelude.{Option, Some, None}
use Rattle.std.proofs.lemmas.List.{append-nil}
use Rattle.text_lines.specs.Lines.{lines_with_returns, lines_of}
use Rattle.text_lines.specs.Reading.{with_line, items_of}

-- the items of the lines so far, and then what is read of the rest
abbrev pub and_then : {A : Type 0} → List A → Result (List A) ℕ → Result (List A) ℕ
and_then front (Ok is) = Ok (front ++ is)
and_then front (Err n) = Err n

pub begins : {A : Type 0} (read : Result (List A) ℕ) → and_then [] read ≡ read
begins (Ok is) = refl
begins (Err n) = refl

regroup : {A : Type 0} (front : List A) (number : ℕ) (i : A) (read : Result (List A) ℕ) → and_then front (with_line number (Some i) read) ≡ and_then (front ++ i ∷ []) read
regroup front number i (Ok is) = ap (λ l. Ok l) (simp append_assoc)
regroup front number i (Err n) = refl

pub goes_on : {A : Type 0} (item_of : List ℕ → Option A) (number : ℕ) (front : List A) (text line after : List ℕ) (i : A) (total : Result (List A) ℕ) → lines_of text ≡ line ∷ lines_of after → item_of line ≡ Some i
    → and_then front (items_of item_of number (lines_of text)) ≡ total → and_then (front ++ i ∷ []) (items_of item_of (number + 1) (lines_of after)) ≡ total
unfolding items_of
goes_on item_of number front text line after i total first said so_far =
    let one : and_then front (items_of item_of number (lines_of text)) ≡ and_then (front ++ i ∷ []) (items_of item_of (number + 1) (lines_of after)) =
    rw (first, said) (regroup front number i (items_of item_of (number + 1) (lines_of after))) in
    sym one ∙ so_far

pub ends : {A : Type 0} (item_of : List ℕ → Option A) (number : ℕ) (front : List A) (text line after : List ℕ) (total : Result (List A) ℕ) → lines_of text ≡ line ∷ lines_of after → item_of line ≡ None
    → and_then front (items_of item_of number (lines_of text)) ≡ total → total ≡ Err number
unfolding items_of
ends item_of number front text line after total first said so_far =
    let one : and_then front (items_of item_of number (lines_of text)) ≡ Err number = rw (first, said) refl in
    sym so_far ∙ one

pub is_done : {A : Type 0} (item_of : List ℕ → Option A) (number : ℕ) (front : List A) (text : List ℕ) (total : Result (List A) ℕ) → length text ≡ 0 → and_then front (items_of item_of number (lines_of text)) ≡ total → total ≡ Ok front
unfolding items_of lines_with_returns
is_done item_of number front [] total none so_far = sym so_far ∙ ap (λ l. Ok l) (append-nil front)
is_done item_of number front (b ∷ bs) total none so_far = absurd (omega (arith, none))
