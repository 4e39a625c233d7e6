-- Numbers that are read byte by byte are those that the definition names.
use Rattle.std.proofs.Common.{◌≡◌, ℕ, ◌+◌, ◌*◌, ◌^◌, ◌<◌, ◌≤◌, Bool, true, false, cond, not, List, [], ◌∷◌, length, Option, Some, None, refl, sym, ◌∙◌, ap, arith, inl, inr}
use Rattle.std.specs.Prelude.{◌-◌, ◌%◌, ◌&&◌, ◌||◌, ◌==◌, nat_lt, take, drop, option_map, option_and_then, codes}
use Rattle.std.specs.Char.{digit_value}
use Rattle.std.specs.List.{list_all}
use Rattle.std.specs.Str.{bytes_eq}
use Rattle.std.specs.Str.Parse.{digits_value_after}
use Rattle.std.proofs.lemmas.Bool.{cases_lt, le-ltb}
use borrow.Author.Tests.{lt-ltb, eqb-true, eqb-false}
use Rattle.source_model.specs.declared.mnemonic.Base.{Base}
use Rattle.source_model.specs.declared.mnemonic.Base.TheVariants.{Decimal, Hexadecimal}
use Rattle.source_model.specs.declared.mnemonic.Number.{Number}
use Rattle.source_model.specs.declared.mnemonic.Number.TheVariants.{Plus, Minus}
use Rattle.source_model.specs.Bytes.{is_empty, begins}
use Rattle.source_model.specs.Number as read
use Rattle.source_model.specs.Number.{digit_of, times, value_from, decimal, hexadecimal}
use Rattle.source_model.proofs.Below.{all_below, each-below}
use Rattle.source_model.specs.Numeral.{digits_in, decimal_in, number_of, number_in, natural_in}

-- ---- digits

abbrev radix : Base → ℕ
radix Decimal = 10
radix Hexadecimal = 16

-- a value that is below the base
abbrev below_base : ℕ → ℕ → Option ℕ
below_base base v = cond (nat_lt v base) (Some v) None

-- whether two values are the same
abbrev is_same : Option ℕ → Option ℕ → Bool
is_same None None = true
is_same (Some m) (Some n) = m == n
is_same o q = false

same-is : (o q : Option ℕ) → is_same o q ≡ true → o ≡ q
same-is None None h = refl
same-is (Some m) (Some n) h = ap (λ (k : ℕ). Some k) (eqb-true m n h)
same-is None (Some n) h = cc
same-is (Some m) None h = cc

abbrev is_digit_same : Base → ℕ → Bool
is_digit_same base b = is_same (digit_of base b) (below_base (radix base) (digit_value b))

-- by computing all bytes up to the letters
all-small : (base : Base) → all_below 123 (is_digit_same base) ≡ true
all-small Decimal = refl
all-small Hexadecimal = refl

end-value : (b : ℕ) → 123 ≤ b → digit_value b ≡ 36
end-value b low =
    let e : nat_lt b 48 ≡ false = le-ltb b 48 (omega (arith, low)) in
    let f : nat_lt b 58 ≡ false = le-ltb b 58 (omega (arith, low)) in
    let g : nat_lt b 65 ≡ false = le-ltb b 65 (omega (arith, low)) in
    let h : nat_lt b 91 ≡ false = le-ltb b 91 (omega (arith, low)) in
    let i : nat_lt b 97 ≡ false = le-ltb b 97 (omega (arith, low)) in
    let j : nat_lt b 123 ≡ false = le-ltb b 123 low in
    rw (e, f, g, h, i, j) refl

no-digit : (base : Base) (b : ℕ) → 123 ≤ b → digit_of base b ≡ below_base (radix base) (digit_value b)
no-digit Decimal b low =
    let e : nat_lt b 48 ≡ false = le-ltb b 48 (omega (arith, low)) in
    let f : nat_lt 57 b ≡ true = lt-ltb 57 b (omega (arith, low)) in
    let value : digit_value b ≡ 36 = end-value b low in
    rw value (rw (e, f) refl)
no-digit Hexadecimal b low =
    let e : nat_lt b 48 ≡ false = le-ltb b 48 (omega (arith, low)) in
    let f : nat_lt 57 b ≡ true = lt-ltb 57 b (omega (arith, low)) in
    let g : nat_lt b 97 ≡ false = le-ltb b 97 (omega (arith, low)) in
    let h : nat_lt 102 b ≡ true = lt-ltb 102 b (omega (arith, low)) in
    let i : nat_lt b 65 ≡ false = le-ltb b 65 (omega (arith, low)) in
    let j : nat_lt 70 b ≡ true = lt-ltb 70 b (omega (arith, low)) in
    let value : digit_value b ≡ 36 = end-value b low in
    rw value (rw (e, f, g, h, i, j) refl)

digit-same : (base : Base) (b : ℕ) → digit_of base b ≡ below_base (radix base) (digit_value b)
digit-same base b = elim (cases_lt b 123) [
  | inl lt ↦ same-is (digit_of base b) (below_base (radix base) (digit_value b)) (each-below 123 (is_digit_same base) (all-small base) b lt)
  | inr le ↦ no-digit base b le
]

-- ---- numbers of digits

times-is : (base : Base) (n d : ℕ) → times base n + d ≡ n * radix base + d
times-is Decimal n d = omega arith
times-is Hexadecimal n d = omega arith

abbrev are_digits : ℕ → List ℕ → Bool
are_digits base digits = list_all (λ d. nat_lt (digit_value d) base) digits

value-step : (t : Bool) (base : Base) (n v : ℕ) (bs : List ℕ) (w : Bool) (o : ℕ) → value_from base (times base n + v) bs ≡ cond w (Some o) None
    → option_and_then (λ d. value_from base (times base n + d) bs) (cond t (Some v) None) ≡ cond (t && w) (Some o) None
value-step true base n v bs w o h = h
value-step false base n v bs w o h = refl

value-same : (base : Base) (n : ℕ) (bs : List ℕ) → value_from base n bs ≡ cond (are_digits (radix base) bs) (Some (digits_value_after (radix base) n bs)) None
unfolding value_from
value-same base n [] = refl
value-same base n (b ∷ bs) =
    let v : ℕ = digit_value b in
    let rest : value_from base (times base n + v) bs ≡ cond (are_digits (radix base) bs) (Some (digits_value_after (radix base) (n * radix base + v) bs)) None =
    ap (λ (k : ℕ). value_from base k bs) (times-is base n v) ∙ value-same base (n * radix base + v) bs in
    ap (λ (o : Option ℕ). option_and_then (λ d. value_from base (times base n + d) bs) o) (digit-same base b)
    ∙ value-step (nat_lt v (radix base)) base n v bs (are_digits (radix base) bs) (digits_value_after (radix base) (n * radix base + v) bs) rest

-- a list with a first element is not empty
filled : (b : ℕ) (bs : List ℕ) → nat_lt 0 (length (b ∷ bs)) ≡ true
filled b bs = lt-ltb 0 (length (b ∷ bs)) (omega arith)

digits-same : (base : Base) (b : ℕ) (bs : List ℕ) → value_from base 0 (b ∷ bs) ≡ digits_in (radix base) (b ∷ bs)
digits-same base b bs =
    let some : nat_lt 0 (length (b ∷ bs)) ≡ true = filled b bs in
    rw some (value-same base 0 (b ∷ bs))

hexadecimal-same : (text : List ℕ) → hexadecimal text ≡ digits_in 16 text
unfolding hexadecimal
hexadecimal-same [] = refl
hexadecimal-same (b ∷ bs) = digits-same Hexadecimal b bs

and-true : (t : Bool) → t ≡ (t && true)
and-true true = refl
and-true false = refl

longer : (b : ℕ) (bs : List ℕ) → not (is_empty bs) ≡ nat_lt 1 (length (b ∷ bs))
longer b [] = refl
longer b (c ∷ cs) = sym (lt-ltb 1 (length (b ∷ c ∷ cs)) (omega arith))

both-same : (a b c d : Bool) → a ≡ b → c ≡ d → (a && c) ≡ (b && d)
both-same a b c d e f = rw (e, f) refl

decimal-same : (text : List ℕ) → decimal text ≡ decimal_in text
unfolding decimal
decimal-same [] = refl
decimal-same (b ∷ bs) =
    ap (λ (t : Bool). cond t None (value_from Decimal 0 (b ∷ bs))) (both-same (b == 48) (bytes_eq (take 1 (b ∷ bs)) (codes "0")) (not (is_empty bs)) (nat_lt 1 (length (b ∷ bs))) (and-true (b == 48)) (longer b bs))
    ∙ ap (λ (o : Option ℕ). cond (bytes_eq (take 1 (b ∷ bs)) (codes "0") && nat_lt 1 (length (b ∷ bs))) None o) (digits-same Decimal b bs)

-- ---- numbers

abbrev sides : Number → ℕ × ℕ
sides (Plus n) = (0, n)
sides (Minus n) = (n, 0)

plus-side : (o : Option ℕ) → option_map sides (option_map (λ n. Plus n) o) ≡ option_map (λ n. (0, n)) o
plus-side None = refl
plus-side (Some n) = refl

minus-side : (o : Option ℕ) → option_map sides (option_map (λ n. Minus n) o) ≡ option_map (λ n. (n, 0)) o
minus-side None = refl
minus-side (Some n) = refl

prefix-same : (word : List ℕ) → (begins 48 word && begins 120 (drop 1 word)) ≡ bytes_eq (take 2 word) (codes "0x")
prefix-same [] = refl
prefix-same (a ∷ []) = refl
prefix-same (a ∷ b ∷ bs) = ap (λ (t : Bool). (a == 48) && t) (and-true (b == 120))

minus-same : (word : List ℕ) → begins 45 word ≡ bytes_eq (take 1 word) (codes "-")
minus-same [] = refl
minus-same (a ∷ bs) = and-true (a == 45)

side-step : (t u : Bool) (h m d : Option ℕ) → option_map sides (cond t (option_map (λ n. Plus n) h) (cond u (option_map (λ n. Minus n) m) (option_map (λ n. Plus n) d)))
    ≡ cond t (option_map (λ n. (0, n)) h) (cond u (option_map (λ n. (n, 0)) m) (option_map (λ n. (0, n)) d))
side-step true u h m d = plus-side h
side-step false true h m d = minus-side m
side-step false false h m d = plus-side d

same-cases : (t t2 u u2 : Bool) (h h2 m m2 d d2 : Option ℕ) → t ≡ t2 → u ≡ u2 → h ≡ h2 → m ≡ m2 → d ≡ d2
    → cond t (option_map {U = ℕ × ℕ} (λ n. (0, n)) h) (cond u (option_map (λ n. (n, 0)) m) (option_map (λ n. (0, n)) d)) ≡ cond t2 (option_map (λ n. (0, n)) h2) (cond u2 (option_map (λ n. (n, 0)) m2) (option_map (λ n. (0, n)) d2))
same-cases t t2 u u2 h h2 m m2 d d2 e f g i j = rw (e, f, g, i, j) refl

number-same : (word : List ℕ) → option_map sides (read.number_of word) ≡ number_of word
unfolding read.number_of
number-same word =
    side-step (begins 48 word && begins 120 (drop 1 word)) (begins 45 word) (hexadecimal (drop 2 word)) (decimal (drop 1 word)) (decimal word)
    ∙ same-cases (begins 48 word && begins 120 (drop 1 word)) (bytes_eq (take 2 word) (codes "0x")) (begins 45 word) (bytes_eq (take 1 word) (codes "-"))
    (hexadecimal (drop 2 word)) (digits_in 16 (drop 2 word)) (decimal (drop 1 word)) (decimal_in (drop 1 word)) (decimal word) (decimal_in word)
    (prefix-same word) (minus-same word) (hexadecimal-same (drop 2 word)) (decimal-same (drop 1 word)) (decimal-same word)

-- ---- numbers in a range

abbrev in_sides : ℕ → ℕ → ℕ × ℕ → Option ℕ
in_sides below above n = cond (nat_lt below n.0 || nat_lt above n.1) None (Some ((2 ^ 32 - n.0) % 2 ^ 32 + n.1))

or-false : (t : Bool) → t ≡ (t || false)
or-false true = refl
or-false false = refl

never : (n : ℕ) → nat_lt n 0 ≡ false
never n = le-ltb n 0 (omega arith)

range-same : (below above : ℕ) (n : Number) → read.in_range below above n ≡ in_sides below above (sides n)
range-same below above (Plus n) =
    let none : nat_lt below 0 ≡ false = never below in
    let whole : (2 ^ 32 - 0) % 2 ^ 32 + n ≡ n = omega arith in
    rw (none, whole) refl
range-same below above (Minus n) =
    let none : nat_lt above 0 ≡ false = never above in
    let whole : (2 ^ 32 - n) % 2 ^ 32 + 0 ≡ (2 ^ 32 - n) % 2 ^ 32 = omega arith in
    rw (none, whole) (ap (λ (t : Bool). cond t None (Some ((2 ^ 32 - n) % 2 ^ 32))) (or-false (nat_lt below n)))

then-same : (f : Number → Option ℕ) (g : ℕ × ℕ → Option ℕ) (o : Option Number) → ((n : Number) → f n ≡ g (sides n)) → option_and_then f o ≡ option_and_then g (option_map sides o)
then-same f g None h = refl
then-same f g (Some n) h = h n

pub in-range-same : (below above : ℕ) (word : List ℕ) → option_and_then (read.in_range below above) (read.number_of word) ≡ number_in below above word
in-range-same below above word = then-same (read.in_range below above) (in_sides below above) (read.number_of word) (range-same below above) ∙ ap (option_and_then (in_sides below above)) (number-same word)

abbrev from_zero : ℕ × ℕ → Option ℕ
from_zero n = cond (nat_lt 0 n.0) None (Some n.1)

some-of : (n : ℕ) → (n == 0) ≡ false → 0 < n
some-of n e = let no : n ≡ 0 → ⊥ = eqb-false n 0 e in omega (arith, no)

zero-step : (n : ℕ) (t : Bool) → (n == 0) ≡ t → cond t (Some 0) None ≡ from_zero (n, 0)
zero-step n true e =
    let zero : n ≡ 0 = eqb-true n 0 e in
    rw zero refl
zero-step n false e =
    let some : nat_lt 0 n ≡ true = lt-ltb 0 n (some-of n e) in
    rw some refl

natural-at : (n : Number) → read.natural_of n ≡ from_zero (sides n)
natural-at (Plus n) = refl
natural-at (Minus n) = zero-step n (n == 0) refl

pub natural-same : (word : List ℕ) → option_and_then read.natural_of (read.number_of word) ≡ natural_in word
natural-same word = then-same read.natural_of from_zero (read.number_of word) natural-at ∙ ap (option_and_then from_zero) (number-same word)
