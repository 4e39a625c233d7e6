-- The number that eight hexadecimal digits write.
use Rattle.std.proofs.Common.{◌≡◌, ◌≢◌, ℕ, zero, suc, ◌+◌, ◌*◌, ◌<◌, ◌≤◌, ◌^◌, true, List, [], ◌∷◌, length, get_or, Result, Ok, Err, refl, ap, arith}
use Rattle.std.specs.Prelude.{Some, None, MatchResult}
use Rattle.std.specs.Char.{digit_value}
use Rattle.std.specs.List.{list_all}
use Rattle.std.specs.Result.{OkIff, result_ok}
use Rattle.std.specs.Str.{IsUtf8}
use Rattle.std.specs.Str.Parse.{AllDigits, IsNumeral, ParsesUnsigned, digits_value, digits_value_after, without_leading_plus}
use Rattle.std.proofs.lemmas.Bool.{and_parts, ne_eqb}
use Rattle.std.proofs.lemmas.Bool.Decides.{nat_tests}
use Rattle.std.proofs.lemmas.Str.{IsUtf8-from_ascii}
use Rattle.std.proofs.lemmas.Str.Ascii.{IsAscii-from_reads}
use Rattle.explain_lines.specs.Names.{is_digit}

-- ---- one digit

pub digit_small : (b : ℕ) → is_digit b ≡ true → digit_value b < 16
digit_small b h = grind (arith, nat_tests)

digit_ascii : (b : ℕ) → is_digit b ≡ true → (48 ≤ b) × (b < 128)
digit_ascii b h = grind (arith, nat_tests)

-- ---- all digits

all_digits : (ds : List ℕ) → list_all is_digit ds ≡ true → AllDigits 16 ds
all_digits [] h = tt
all_digits (b ∷ bs) h = let both = and_parts (is_digit b) (list_all is_digit bs) h in (digit_small b both.0, all_digits bs both.1)

each : (ds : List ℕ) (k : ℕ) → list_all is_digit ds ≡ true → k < length ds → (48 ≤ get_or ds k 0) × (get_or ds k 0 < 128)
each [] k h lt = absurd (omega (arith, lt))
each (b ∷ bs) zero h lt = digit_ascii b (and_parts (is_digit b) (list_all is_digit bs) h).0
each (b ∷ bs) (suc k) h lt = each bs k (and_parts (is_digit b) (list_all is_digit bs) h).1 (omega (arith, lt))

are_text : (ds : List ℕ) → list_all is_digit ds ≡ true → IsUtf8 ds
are_text ds h = IsUtf8-from_ascii ds (IsAscii-from_reads ds (length ds) (omega arith) (λ k lt. (each ds k h lt).1))

-- no sign stands in front
no_plus : (ds : List ℕ) → list_all is_digit ds ≡ true → 0 < length ds → without_leading_plus ds ≡ ds
no_plus [] h lt = refl
no_plus (b ∷ bs) h lt =
    let least : 48 ≤ b = (digit_ascii b (and_parts (is_digit b) (list_all is_digit bs) h).0).0 in
    let other : b ≢ 43 = λ e. omega (arith, least, e) in
    rw (ne_eqb b 43 other) refl

-- what k digits of 16 make of a bound
abbrev grown : ℕ → ℕ → ℕ
grown bound zero = bound
grown bound (suc k) = grown (bound * 16) k

below_grown : (bound n : ℕ) (ds : List ℕ) → list_all is_digit ds ≡ true → n < bound → digits_value_after 16 n ds < grown bound (length ds)
below_grown bound n [] h lt = lt
below_grown bound n (b ∷ bs) h lt =
    let both = and_parts (is_digit b) (list_all is_digit bs) h in
    let small = digit_small b both.0 in
    below_grown (bound * 16) (n * 16 + digit_value b) bs both.1 (omega (arith, small))

below_all : (ds : List ℕ) → list_all is_digit ds ≡ true → length ds ≡ 8 → digits_value 16 ds < 2 ^ 32
below_all ds h eight = rw eight at (below_grown 1 0 ds h (omega arith))

-- ---- what parsing them gives

pub unreadable : {T E : Type 0} (ds : List ℕ) (r : Result T E) (P : T → Type 0) (Q : E → Type 0) → MatchResult r P (λ e. ¬ (IsUtf8 ds) × Q e) → list_all is_digit ds ≡ true → result_ok r ≡ None → ⊥
unreadable ds (Ok x) P Q h digits e = absurd cc
unreadable ds (Err f) P Q h digits e = h.0 (are_text ds digits)

read : {E : Type 0} (r : Result ℕ E) (P : Type 0) (v : ℕ) → OkIff r P v → P → result_ok r ≡ Some v
read (Ok x) P v h p = ap (λ (k : ℕ). Some k) h.1
read (Err e) P v h p = absurd (h p)

pub reads : {E : Type 0} (ds : List ℕ) (r : Result ℕ E) → ParsesUnsigned 32 16 ds r → list_all is_digit ds ≡ true → length ds ≡ 8 → result_ok r ≡ Some (digits_value 16 ds)
reads {E} ds r h digits eight =
    let plain : OkIff r (IsNumeral 16 ds × (digits_value 16 ds < 2 ^ 32)) (digits_value 16 ds) = rw (no_plus ds digits (omega (arith, eight))) at h in
    read r _ _ plain ((omega (arith, eight), all_digits ds digits), below_all ds digits eight)
