-- What is read of hexadecimal digits, and of an address, is what they write.
use Rattle.std.proofs.Common.{◌≡◌, ◌≤◌, ◌<◌, ◌^◌, ◌∙◌, ℕ, Bool, true, false, cond, List, [], ◌∷◌, ◌++◌, length, drop, take, Some, None, Result, Ok, Err, refl, sym, ap, subst, codes, arith, tests}
use Rattle.std.specs.Prelude.{◌==◌, ◌&&◌, nat_lt, nat_le}
use Rattle.std.specs.Char.{digit_value, is_ascii_hexdigit}
use Rattle.std.specs.List.{list_all}
use Rattle.std.specs.Result.{OkIff, result_ok}
use Rattle.std.specs.Str.{bytes_eq}
use Rattle.std.specs.Str.Parse.{AllDigits, IsNumeral, ParsesUnsigned, digits_value, without_leading_plus}
use Rattle.std.proofs.lemmas.Bool.{and_parts, ltb-true, leb-true}
use Rattle.std.proofs.lemmas.Int.Digits.{digits_value-lt}
use Rattle.std.proofs.lemmas.Slice.Eq.{bytes_eq-Decides}
use Rattle.std.proofs.Math.Nat.{pow-le-pow_right}
use Rattle.explain_words.specs.Line.{address_in, hexadecimal_in, is_hexadecimal}

-- ---- digits

digit_below : (c : ℕ) → is_ascii_hexdigit c ≡ true → digit_value c < 16
digit_below c h = grind (arith, tests, h)

is_no_plus : (c : ℕ) → is_ascii_hexdigit c ≡ true → (c == 43) ≡ false
is_no_plus c h = grind (arith, tests, h)

all_digits : (digits : List ℕ) → list_all is_ascii_hexdigit digits ≡ true → AllDigits 16 digits
all_digits [] h = tt
all_digits (c ∷ cs) h =
    let both = and_parts (is_ascii_hexdigit c) _ h in
    (digit_below c both.0, all_digits cs both.1)

without_plus : (digits : List ℕ) → list_all is_ascii_hexdigit digits ≡ true → without_leading_plus digits ≡ digits
without_plus [] h = refl
without_plus (c ∷ cs) h =
    let both = and_parts (is_ascii_hexdigit c) _ h in
    ap (λ (b : Bool). drop (cond b 1 0) (c ∷ cs)) (is_no_plus c both.0)

small : (digits : List ℕ) → AllDigits 16 digits → length digits ≤ 8 → digits_value 16 digits < 2 ^ 32
small digits h few =
    let below : digits_value 16 digits < 16 ^ length digits = digits_value-lt 16 digits h in
    let most : 16 ^ length digits ≤ 16 ^ 8 = pow-le-pow_right (omega arith) few in
    omega arith

parsed : {E : Type 0} (digits : List ℕ) (r : Result ℕ E) → IsNumeral 16 digits → digits_value 16 digits < 2 ^ 32 → OkIff r (IsNumeral 16 digits × (digits_value 16 digits < 2 ^ 32)) (digits_value 16 digits)
    → result_ok r ≡ Some (digits_value 16 digits)
parsed digits (Ok n) numeral fits h = ap (λ (k : ℕ). Some k) h.1
parsed digits (Err e) numeral fits h = absurd (h (numeral, fits))

-- such digits are parsed
pub hexadecimal_parses : {E : Type 0} (digits : List ℕ) (r : Result ℕ E) → is_hexadecimal digits ≡ true → ParsesUnsigned 32 16 digits r → result_ok r ≡ hexadecimal_in digits
unfolding hexadecimal_in
hexadecimal_parses {E} digits r are h =
    let all = and_parts (nat_lt 0 (length digits) && nat_le (length digits) 8) _ are in
    let few = and_parts (nat_lt 0 (length digits)) _ all.0 in
    let digit = all_digits digits all.1 in
    let plain : OkIff r (IsNumeral 16 digits × (digits_value 16 digits < 2 ^ 32)) (digits_value 16 digits) =
    subst (λ (t : List ℕ). OkIff r (IsNumeral 16 t × (digits_value 16 t < 2 ^ 32)) (digits_value 16 t)) (without_plus digits all.1) h in
    parsed digits r (ltb-true _ _ few.0, digit) (small digits digit (leb-true _ _ few.1)) plain ∙ sym (ap (λ (b : Bool). cond b (Some (digits_value 16 digits)) None) are)

pub none_of_others : (digits : List ℕ) → is_hexadecimal digits ≡ false → None ≡ hexadecimal_in digits
unfolding hexadecimal_in
none_of_others digits are = sym (ap (λ (b : Bool). cond b (Some (digits_value 16 digits)) None) are)

-- ---- an address

-- behind `0x`
pub behind_prefix : (text digits : List ℕ) → text ≡ codes "0x" ++ digits → hexadecimal_in digits ≡ address_in text
unfolding address_in
behind_prefix text digits is = rw is refl

other_front : (text : List ℕ) → ((rest : List ℕ) → text ≡ codes "0x" ++ rest → ⊥) → bytes_eq (take 2 text) (codes "0x") ≡ false
other_front [] lacks = refl
other_front (a ∷ []) lacks = go (bytes_eq (a ∷ []) (codes "0x")) refl
  where
    go : (b : Bool) → bytes_eq (a ∷ []) (codes "0x") ≡ b → b ≡ false
    go false e = refl
    go true e = let same = (bytes_eq-Decides (a ∷ []) (codes "0x")).0 e in absurd cc
other_front (a ∷ b ∷ rest) lacks = go (bytes_eq (a ∷ b ∷ []) (codes "0x")) refl
  where
    go : (x : Bool) → bytes_eq (a ∷ b ∷ []) (codes "0x") ≡ x → x ≡ false
    go false e = refl
    go true e = absurd (lacks rest (ap (λ (front : List ℕ). front ++ rest) ((bytes_eq-Decides (a ∷ b ∷ []) (codes "0x")).0 e)))

-- with no such prefix there is none
pub none_without_prefix : (text : List ℕ) → ((rest : List ℕ) → text ≡ codes "0x" ++ rest → ⊥) → None ≡ address_in text
unfolding address_in
none_without_prefix text lacks = sym (ap (λ (b : Bool). cond b (hexadecimal_in (drop 2 text)) None) (other_front text lacks))
