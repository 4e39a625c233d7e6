-- The parts of a line that names a path: numbers, and the slashes between them.
use Rattle.std.proofs.Common.{◌≡◌, ℕ, ◌<◌, ◌≤◌, Bool, true, false, cond, List, [], ◌∷◌, ◌++◌, length, refl, ap, subst, ◌∙◌, arith}
use Rattle.std.specs.Prelude.{◌==◌, nat_le, Option, Some, None}
use Rattle.std.specs.Char.{is_ascii_digit}
use Rattle.std.specs.List.{All, flat_map, slice_split, onto_first}
use Rattle.std.specs.Str.{all_ascii_digits}
use Rattle.std.proofs.lemmas.Bool.{and_parts, leb-true, le-leb, eqb-true, ne_eqb}
use Rattle.std.proofs.lemmas.List.{append-nil}
use Rattle.std.proofs.lemmas.List.Elements.{All-nil, All-cons}
use Rattle.std.proofs.lemmas.List.Splits.{slice_split_none, slice_split_at, length-slice_split}
use Rattle.std.proofs.lemmas.Option.{cond_some}
use Rattle.call_model.specs.Limits.{greatest_child}
use Rattle.text_lines.specs.Numbers.{IsNumber}
use Rattle.text_lines.specs.Reading.{number_of}
use Rattle.text_lines.proofs.Digits.{number_takes, number_again}
use Rattle.schedule_model.specs.Schedule.{AreNumbers, IsPath, most_digits}
use Rattle.schedule_model.specs.Reading.{with_number, numbers_of, at_most_eight, and_short, path_of}

-- ---- numbers

pub numbers_take : (numbers : List (List ℕ)) (path : List ℕ) → numbers_of numbers ≡ Some path → AreNumbers numbers path
unfolding numbers_of
numbers_take [] [] e = tt
numbers_take [] (n ∷ path) e = absurd cc
numbers_take (digits ∷ others) path e = first_takes digits others path (number_of most_digits greatest_child digits) refl (numbers_of others) refl e (numbers_take others)
  where
    first_takes : (digits : List ℕ) (others : List (List ℕ)) (path : List ℕ) (o : Option ℕ) → number_of most_digits greatest_child digits ≡ o → (r : Option (List ℕ)) → numbers_of others ≡ r
        → with_number o r ≡ Some path → ((q : List ℕ) → numbers_of others ≡ Some q → AreNumbers others q) → AreNumbers (digits ∷ others) path
    first_takes digits others path None first r read e more = absurd cc
    first_takes digits others path (Some n) first None read e more = absurd cc
    first_takes digits others [] (Some n) first (Some q) read e more = absurd cc
    first_takes digits others (m ∷ path) (Some n) first (Some q) read e more =
        let same : n ≡ m = cc in
        let rest : q ≡ path = cc in
        (number_takes most_digits greatest_child digits m (first ∙ ap (λ (k : ℕ). Some k) same), more path (read ∙ ap (λ (x : List ℕ). Some x) rest))

pub numbers_again : (numbers : List (List ℕ)) (path : List ℕ) → AreNumbers numbers path → numbers_of numbers ≡ Some path
unfolding numbers_of
numbers_again [] [] h = refl
numbers_again [] (n ∷ path) h = absurd h
numbers_again (digits ∷ others) [] h = absurd h
numbers_again (digits ∷ others) (n ∷ path) h = rw (number_again most_digits greatest_child digits n h.0, numbers_again others path h.1) refl

-- ---- slashes

abbrev pub is_slash : ℕ → Bool
is_slash b = b == 47

-- `/` before each part
abbrev pub with_slashes : List (List ℕ) → List ℕ
with_slashes parts = flat_map (λ digits. 47 ∷ digits) parts

no_slash : (digits : List ℕ) → all_ascii_digits digits ≡ true → All (λ b. is_slash b ≡ false) digits
no_slash [] h = All-nil (λ b. is_slash b ≡ false)
no_slash (b ∷ bs) h =
    let both = and_parts (is_ascii_digit b) (all_ascii_digits bs) h in
    let low = leb-true 48 b (and_parts (nat_le 48 b) (nat_le b 57) both.0).0 in
    All-cons (λ c. is_slash c ≡ false) b bs (ne_eqb b 47 (λ e. omega (arith, e, low))) (no_slash bs both.1)

-- numbers with slashes between them are taken apart at the slashes
pub taken_apart : (digits : List ℕ) (others : List (List ℕ)) (n : ℕ) (path : List ℕ) → IsNumber most_digits greatest_child digits n → AreNumbers others path → slice_split is_slash (digits ++ with_slashes others) ≡ digits ∷ others
taken_apart digits [] n path h hs = ap (slice_split is_slash) (append-nil digits) ∙ slice_split_none is_slash digits (no_slash digits h.decimal)
taken_apart digits (o ∷ os) n [] h hs = absurd hs
taken_apart digits (o ∷ os) n (m ∷ path) h hs =
    slice_split_at is_slash digits 47 (o ++ with_slashes os) (no_slash digits h.decimal) refl ∙ ap (λ (l : List (List ℕ)). digits ∷ l) (taken_apart o os m path hs.0 hs.1)

together_byte : (b : ℕ) (bs : List ℕ) (parts : List (List ℕ)) (t : Bool) → is_slash b ≡ t → 0 < length parts → 47 ∷ bs ≡ with_slashes parts → 47 ∷ b ∷ bs ≡ with_slashes (cond t ([] ∷ parts) (onto_first b parts))
together_byte b bs [] t same some e = absurd (omega (arith, some))
together_byte b bs (part ∷ parts) true same some e = let slash = eqb-true b 47 same in cc
together_byte b bs (part ∷ parts) false same some e = cc

-- what is taken apart at slashes is put together by them
pub together : (bs : List ℕ) → 47 ∷ bs ≡ with_slashes (slice_split is_slash bs)
together [] = refl
together (b ∷ bs) = together_byte b bs (slice_split is_slash bs) (is_slash b) refl (omega (arith, length-slice_split is_slash bs)) (together bs)

-- ---- paths

no_numbers : (numbers : List (List ℕ)) → 0 < length numbers → AreNumbers numbers [] → ⊥
no_numbers [] some h = omega (arith, some)
no_numbers (digits ∷ others) some h = h

short_takes : (numbers : List (List ℕ)) (path : List ℕ) (line : List ℕ) → line ≡ with_slashes numbers → 0 < length numbers → (o : Option (List ℕ)) → numbers_of numbers ≡ o → and_short o ≡ Some path → IsPath line path
short_takes numbers path line text some None read e = absurd cc
short_takes numbers path line text some (Some q) read e =
    let taken = cond_some (nat_le (length q) 8) q path e in
    long_takes numbers path line text some (numbers_take numbers path (read ∙ ap (λ (x : List ℕ). Some x) taken.1)) (subst (λ (x : List ℕ). length x ≤ 8) taken.1 (leb-true _ _ taken.0))
  where
    long_takes : (numbers : List (List ℕ)) (path : List ℕ) (line : List ℕ) → line ≡ with_slashes numbers → 0 < length numbers → AreNumbers numbers path → length path ≤ 8 → IsPath line path
    long_takes numbers [] line text some are short = absurd (no_numbers numbers some are)
    long_takes numbers (n ∷ path) line text some are short = (short, numbers, text, are)

pub path_takes : (bs path : List ℕ) → path_of bs ≡ Some path → IsPath (47 ∷ bs) path
unfolding path_of
path_takes [] [] e = refl
path_takes [] (n ∷ path) e = absurd cc
path_takes (b ∷ bs) path e =
    short_takes (slice_split is_slash (b ∷ bs)) path (47 ∷ b ∷ bs) (together (b ∷ bs)) (omega (arith, length-slice_split is_slash (b ∷ bs))) (numbers_of (slice_split is_slash (b ∷ bs))) refl e

is_short : (path : List ℕ) → length path ≤ 8 → at_most_eight path ≡ Some path
is_short path short = ap (λ (t : Bool). cond t (Some path) None) (le-leb _ _ short)

pub long_again : (digits : List ℕ) (others : List (List ℕ)) (n : ℕ) (path : List ℕ) → IsNumber most_digits greatest_child digits n → AreNumbers others path → length (n ∷ path) ≤ 8 → path_of (digits ++ with_slashes others) ≡ Some (n ∷ path)
unfolding path_of
long_again [] others n path h hs short = absurd (omega (arith, h.some))
long_again (b ∷ bs) others n path h hs short =
    ap (λ (l : List (List ℕ)). and_short (numbers_of l)) (taken_apart (b ∷ bs) others n path h hs)
    ∙ (ap and_short (numbers_again ((b ∷ bs) ∷ others) (n ∷ path) (h, hs)) ∙ is_short (n ∷ path) short)
