-- The numbers of a path one after the other, as a loop takes them.
use Rattle.std.proofs.Common.{◌≡◌, ℕ, ◌≤◌, Bool, cond, List, [], ◌∷◌, ◌++◌, length, refl, sym, ap, ◌∙◌, append_assoc, length-append, arith}
use Rattle.std.specs.Prelude.{Option, Some, None, option_map}
use Rattle.std.proofs.lemmas.Bool.{le-leb, lt-leb}
use Rattle.std.proofs.lemmas.List.{append-nil}
use Rattle.call_model.specs.Limits.{greatest_child}
use Rattle.text_lines.specs.Reading.{number_of}
use Rattle.schedule_model.specs.Schedule.{most_digits}
use Rattle.schedule_model.specs.Reading.{with_number, numbers_of, and_short}

-- numbers before those of the rest
abbrev pub numbers_after : List ℕ → Option (List ℕ) → Option (List ℕ)
numbers_after front read = and_short (option_map (λ path. front ++ path) read)

regroup : (front : List ℕ) (n : ℕ) (read : Option (List ℕ)) → numbers_after front (with_number (Some n) read) ≡ numbers_after (front ++ n ∷ []) read
regroup front n None = refl
regroup front n (Some path) = ap (λ (l : List ℕ). and_short (Some l)) (simp append_assoc)

pub begins : (front : List ℕ) (read : Option (List ℕ)) → front ≡ [] → numbers_after front read ≡ and_short read
begins [] None e = refl
begins [] (Some path) e = refl
begins (n ∷ front) read e = absurd cc

first_of : (front digits : List ℕ) (left parts : List (List ℕ)) (o : Option ℕ) → left ≡ digits ∷ parts → number_of most_digits greatest_child digits ≡ o → numbers_after front (numbers_of left) ≡ numbers_after front (with_number o (numbers_of parts))
unfolding numbers_of
first_of front digits left parts o first read = rw (first, read) refl

pub goes_on : (front digits : List ℕ) (left parts : List (List ℕ)) (n : ℕ) (total : Option (List ℕ)) → left ≡ digits ∷ parts → number_of most_digits greatest_child digits ≡ Some n → numbers_after front (numbers_of left) ≡ total
    → numbers_after (front ++ n ∷ []) (numbers_of parts) ≡ total
goes_on front digits left parts n total first read so_far = sym (first_of front digits left parts (Some n) first read ∙ regroup front n (numbers_of parts)) ∙ so_far

pub ends : (front digits : List ℕ) (left parts : List (List ℕ)) (total : Option (List ℕ)) → left ≡ digits ∷ parts → number_of most_digits greatest_child digits ≡ None → numbers_after front (numbers_of left) ≡ total → None ≡ total
ends front digits left parts total first read so_far = sym (first_of front digits left parts None first read) ∙ so_far

too_long : (front : List ℕ) (n : ℕ) (read : Option (List ℕ)) → length front ≡ 8 → numbers_after front (with_number (Some n) read) ≡ None
too_long front n None full = refl
too_long front n (Some path) full =
    ap (λ (t : Bool). cond t (Some (front ++ n ∷ path)) None) (lt-leb (length (front ++ n ∷ path)) 8 (omega (arith, full, length-append front (n ∷ path))))

-- a ninth number
pub is_full : (front digits : List ℕ) (left parts : List (List ℕ)) (n : ℕ) (total : Option (List ℕ)) → left ≡ digits ∷ parts → number_of most_digits greatest_child digits ≡ Some n → length front ≡ 8 → numbers_after front (numbers_of left) ≡ total → None ≡ total
is_full front digits left parts n total first read full so_far = sym (first_of front digits left parts (Some n) first read ∙ too_long front n (numbers_of parts) full) ∙ so_far

pub is_done : (front : List ℕ) (left : List (List ℕ)) (total : Option (List ℕ)) → left ≡ [] → length front ≤ 8 → numbers_after front (numbers_of left) ≡ total → Some front ≡ total
unfolding numbers_of
is_done front (digits ∷ parts) total none short so_far = absurd cc
is_done front [] total none short so_far =
    sym (ap (λ (l : List ℕ). and_short (Some l)) (append-nil front) ∙ ap (λ (t : Bool). cond t (Some front) None) (le-leb _ _ short)) ∙ so_far
