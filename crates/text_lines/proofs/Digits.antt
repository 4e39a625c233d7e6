-- What is read of digits is the number that they write, and so is what parsing them gives.
use Rattle.std.proofs.Common.{◌≡◌, ℕ, ◌≤◌, ◌<◌, ◌^◌, Bool, true, cond, List, length, Result, Ok, Err, sym, ap, subst, ◌∙◌, arith}
use Rattle.std.specs.Prelude.{◌&&◌, nat_lt, nat_le, Some, None, MatchResult}
use Rattle.std.specs.Option.{SomeIff}
use Rattle.std.specs.Result.{OkIff, result_ok}
use Rattle.std.specs.Str.{IsUtf8, all_ascii_digits}
use Rattle.std.specs.Str.Parse.{ParsesUnsigned, digits_value}
use Rattle.std.proofs.lemmas.Bool.{and_parts, and_from, ltb-true, leb-true, lt-ltb, le-leb}
use Rattle.std.proofs.lemmas.Option.{cond_some}
use Rattle.std.proofs.lemmas.Str.{IsUtf8-from_ascii}
use Rattle.std.proofs.lemmas.Str.Ascii.{IsAscii-from_reads}
use Rattle.std.proofs.lemmas.Str.Parse.{IsNumeralModel, numerals_by_value, tells_all_ascii_digits, digit_at, parse_digits}
use Rattle.text_lines.specs.Numbers.{IsNumber}
use Rattle.text_lines.specs.Reading.{is_number, number_of}

-- ---- what is read is written, and what is written is read

pub number_takes : (most bound : ℕ) (digits : List ℕ) (n : ℕ) → number_of most bound digits ≡ Some n → IsNumber most bound digits n
unfolding number_of
number_takes most bound digits n e =
    let taken = cond_some (is_number most bound digits) (digits_value 10 digits) n e in
    let a = and_parts (nat_lt 0 (length digits) && nat_le (length digits) most && all_ascii_digits digits) _ taken.0 in
    let b = and_parts (nat_lt 0 (length digits) && nat_le (length digits) most) _ a.0 in
    let c = and_parts (nat_lt 0 (length digits)) _ b.0 in
    record { some = ltb-true _ _ c.0; few = leb-true _ _ c.1; decimal = b.1; value = sym taken.1; small = subst (λ (k : ℕ). k ≤ bound) taken.1 (leb-true _ _ a.1) }

pub number_again : (most bound : ℕ) (digits : List ℕ) (n : ℕ) → IsNumber most bound digits n → number_of most bound digits ≡ Some n
unfolding number_of
number_again most bound digits n h =
    let small : digits_value 10 digits ≤ bound = subst (λ (k : ℕ). k ≤ bound) h.value h.small in
    let all : is_number most bound digits ≡ true = and_from _ _ (and_from _ _ (and_from _ _ (lt-ltb _ _ h.some) (le-leb _ _ h.few)) h.decimal) (le-leb _ _ small) in
    ap (λ (b : Bool). cond b (Some (digits_value 10 digits)) None) all ∙ ap (λ (k : ℕ). Some k) (sym h.value)

-- ---- what parsing digits gives

own : IsNumeralModel (λ ds. all_ascii_digits ds ≡ true) (digits_value 10)
own = numerals_by_value (λ ds. all_ascii_digits ds ≡ true) tells_all_ascii_digits

-- digits are text
are_text : (digits : List ℕ) → all_ascii_digits digits ≡ true → IsUtf8 digits
are_text digits h = IsUtf8-from_ascii digits (IsAscii-from_reads digits (length digits) (omega arith) (λ k lt. let each = digit_at digits k (own.to digits h) lt in omega (arith, each)))

pub unreadable : {T E : Type 0} (digits : List ℕ) (r : Result T E) (P : T → Type 0) (Q : E → Type 0) → MatchResult r P (λ e. ¬ (IsUtf8 digits) × Q e) → all_ascii_digits digits ≡ true → result_ok r ≡ None → ⊥
unreadable digits (Ok x) P Q h decimal e = absurd cc
unreadable digits (Err f) P Q h decimal e = h.0 (are_text digits decimal)

if_some : {T E : Type 0} (r : Result T E) (P : Type 0) (v : T) → OkIff r P v → SomeIff (result_ok r) P v
if_some (Ok x) P v h = h
if_some (Err e) P v h = h

pub parse_reads : {E : Type 0} (digits : List ℕ) (r : Result ℕ E) → ParsesUnsigned 32 10 digits r → all_ascii_digits digits ≡ true → SomeIff (result_ok r) ((0 < length digits) × (digits_value 10 digits < 2 ^ 32)) (digits_value 10 digits)
parse_reads digits r h decimal = if_some r _ _ (parse_digits own 32 digits r h decimal)
