-- Registers that are read by a letter and a number are those that the definition names.
use Rattle.std.proofs.Common.{◌≡◌, ℕ, not, ◌+◌, ◌*◌, ◌/◌, ◌%◌, ◌<◌, ◌≤◌, Bool, true, false, cond, List, [], ◌∷◌, Option, Some, None, refl, sym, ◌∙◌, ap, arith}
use Rattle.std.specs.Prelude.{map, ◌-◌, ◌&&◌, ◌==◌, nat_lt, drop, slice_index, is_some, option_map, option_and_then, codes}
use Rattle.std.specs.List.{position_from}
use Rattle.std.specs.Str.{bytes_eq}
use Rattle.std.proofs.lemmas.Bool.{le-ltb}
use Rattle.std.proofs.lemmas.Slice.Eq.{bytes_eq-Decides}
use borrow.Author.Tests.{lt-ltb, ltb-true, ltb-false, eqb-true, eqb-false}
use Rattle.source_model.specs.declared.mnemonic.Base.TheVariants.{Decimal}
use Rattle.source_model.specs.Bytes.{same_text, is_digit}
use Rattle.source_model.specs.Number.{digit_of}
use Rattle.source_model.specs.Register as read
use Rattle.source_model.specs.Register.{index_of, letter_register}
use Rattle.source_model.specs.RegisterNames.{register_names, register_in}
use Rattle.source_model.proofs.Below.{both, all_below, each-below}

-- ---- a name that is found is read as its register

-- the registers of names from a place on
abbrev places : ℕ → List (List ℕ) → List (Option ℕ)
places i [] = []
places i (n ∷ ns) = Some (i % 32) ∷ places (i + 1) ns

names-read : map read.register_in register_names ≡ places 0 register_names
unfolding same_text index_of
names-read = refl

first-is : (x y : Option ℕ) (xs ys : List (Option ℕ)) → x ∷ xs ≡ y ∷ ys → x ≡ y
first-is x y xs ys e = cc

others-are : (x y : Option ℕ) (xs ys : List (Option ℕ)) → x ∷ xs ≡ y ∷ ys → xs ≡ ys
others-are x y xs ys e = cc

some-is : (i j : ℕ) → Some i ≡ Some j → i ≡ j
some-is i j e = cc

same-text : (w n : List ℕ) → bytes_eq w n ≡ true → w ≡ n
same-text w n e = (bytes_eq-Decides w n).0 e

found-step : (t : Bool) (i j : ℕ) (w n : List ℕ) (o : Option ℕ) → bytes_eq w n ≡ t → read.register_in n ≡ Some (i % 32) → (o ≡ Some j → read.register_in w ≡ Some (j % 32)) → cond t (Some i) o ≡ Some j → read.register_in w ≡ Some (j % 32)
found-step true i j w n o e is rest h = ap read.register_in (same-text w n e) ∙ (is ∙ ap (λ (k : ℕ). Some (k % 32)) (some-is i j h))
found-step false i j w n o e is rest h = rest h

found-same : (i : ℕ) (ns : List (List ℕ)) (w : List ℕ) (j : ℕ) → map read.register_in ns ≡ places i ns → position_from (bytes_eq w) i ns ≡ Some j → read.register_in w ≡ Some (j % 32)
found-same i [] w j e h = cc
found-same i (n ∷ ns) w j e h = found-step (bytes_eq w n) i j w n (position_from (bytes_eq w) (i + 1) ns) refl (first-is (read.register_in n) (Some (i % 32)) (map read.register_in ns) (places (i + 1) ns) e)
    (found-same (i + 1) ns w j (others-are (read.register_in n) (Some (i % 32)) (map read.register_in ns) (places (i + 1) ns) e)) h

-- ---- what is read as a register is a name

-- one or two digits
abbrev digits_of : ℕ → List ℕ
digits_of n = cond (nat_lt n 10) ((48 + n) ∷ []) ((48 + n / 10) ∷ (48 + n % 10) ∷ [])

not-true : (x : Bool) → not x ≡ true → x ≡ false
not-true true h = cc
not-true false h = refl

-- a decimal digit
record Digit (a n : ℕ) : Type 0 where
  is : a ≡ 48 + n
  small : n < 10

digit-step : (a n : ℕ) (t : Bool) → is_digit a ≡ t → cond t (Some (a - 48)) None ≡ Some n → Digit a n
digit-step a n true e h =
    let ok = both (not (nat_lt a 48)) (not (nat_lt 57 a)) e in
    let low : 48 ≤ a = ltb-false a 48 (not-true (nat_lt a 48) ok.0) in
    let high : a ≤ 57 = ltb-false 57 a (not-true (nat_lt 57 a) ok.1) in
    let value : a - 48 ≡ n = some-is (a - 48) n h in
    record { is = omega (arith, low, value); small = omega (arith, low, high, value) }
digit-step a n false e h = cc

digit-is : (a n : ℕ) → digit_of Decimal a ≡ Some n → Digit a n
digit-is a n h = digit-step a n (is_digit a) refl h

one-digit : (a n : ℕ) → Digit a n → a ∷ [] ≡ digits_of n
one-digit a n d =
    let small : nat_lt n 10 ≡ true = lt-ltb n 10 d.small in
    let is : a ≡ 48 + n = d.is in
    rw (small, is) refl

two-digits : (a b m k n : ℕ) → Digit a m → Digit b k → (a ≡ 48 → ⊥) → 10 * m + k ≡ n → a ∷ b ∷ [] ≡ digits_of n
two-digits a b m k n d e first total =
    let positive : 0 < m = omega (arith, first, d.is) in
    let large : nat_lt n 10 ≡ false = le-ltb n 10 (omega (arith, positive, total)) in
    let high : n / 10 ≡ m = omega (arith, total, e.small) in
    let low : n % 10 ≡ k = omega (arith, total, e.small) in
    let one : a ≡ 48 + m = d.is in
    let two : b ≡ 48 + k = e.is in
    rw (large, high, low, one, two) refl

second-step : (a b m n : ℕ) (q : Option ℕ) → Digit a m → (a ≡ 48 → ⊥) → digit_of Decimal b ≡ q → option_and_then (λ k. Some (10 * m + k)) q ≡ Some n → a ∷ b ∷ [] ≡ digits_of n
second-step a b m n None d first e h = cc
second-step a b m n (Some k) d first e h = two-digits a b m k n d (digit-is b k e) first (some-is (10 * m + k) n h)

first-step : (a b n : ℕ) (t : Bool) (o : Option ℕ) → (a == 48) ≡ t → digit_of Decimal a ≡ o
    → cond t None (option_and_then (λ m. option_and_then (λ k. Some (10 * m + k)) (digit_of Decimal b)) o) ≡ Some n → a ∷ b ∷ [] ≡ digits_of n
first-step a b n true o f e h = cc
first-step a b n false None f e h = cc
first-step a b n false (Some m) f e h = second-step a b m n (digit_of Decimal b) (digit-is a m e) (eqb-false a 48 f) refl h

index-is : (text : List ℕ) (n : ℕ) → index_of text ≡ Some n → text ≡ digits_of n
unfolding index_of
index-is [] n h = cc
index-is (a ∷ []) n h = one-digit a n (digit-is a n h)
index-is (a ∷ b ∷ []) n h = first-step a b n (a == 48) (digit_of Decimal a) refl refl h
index-is (a ∷ b ∷ c ∷ bs) n h = cc

-- ---- letters

abbrev is_name : List ℕ → Bool
is_name w = is_some (position_from (bytes_eq w) 0 register_names)

abbrev is_lettered : ℕ → ℕ → Bool
is_lettered letter n = is_name (letter ∷ digits_of n)

all-x : all_below 32 (is_lettered 120) ≡ true
all-x = refl

all-t : all_below 7 (is_lettered 116) ≡ true
all-t = refl

all-s : all_below 12 (is_lettered 115) ≡ true
all-s = refl

all-a : all_below 8 (is_lettered 97) ≡ true
all-a = refl

in-case : (letter n c m : ℕ) → ((letter == c) && nat_lt n m) ≡ true → (letter ≡ c) × (n < m)
in-case letter n c m h =
    let ok = both (letter == c) (nat_lt n m) h in
    (eqb-true letter c ok.0, ltb-true n m ok.1)

by-letter : (letter n c m : ℕ) → all_below m (is_lettered c) ≡ true → ((letter == c) && nat_lt n m) ≡ true → is_lettered letter n ≡ true
by-letter letter n c m all h =
    let is = in-case letter n c m h in
    ap (λ (l : ℕ). is_lettered l n) is.0 ∙ each-below m (is_lettered c) all n is.1

letter-step : (letter n k : ℕ) (a b c d e f : Bool) → ((letter == 120) && nat_lt n 32) ≡ a → ((letter == 116) && nat_lt n 3) ≡ b → ((letter == 116) && nat_lt n 7) ≡ c → ((letter == 115) && nat_lt n 2) ≡ d → ((letter == 115) && nat_lt n 12) ≡ e → ((letter == 97) && nat_lt n 8) ≡ f
    → cond a (Some n) (cond b (Some (n + 5)) (cond c (Some (n + 25)) (cond d (Some (n + 8)) (cond e (Some (n + 16)) (cond f (Some (n + 10)) None))))) ≡ Some k → is_lettered letter n ≡ true
letter-step letter n k true b c d e f p q r s t u h = by-letter letter n 120 32 all-x p
letter-step letter n k false true c d e f p q r s t u h = by-letter letter n 116 3 refl q
letter-step letter n k false false true d e f p q r s t u h = by-letter letter n 116 7 all-t r
letter-step letter n k false false false true e f p q r s t u h = by-letter letter n 115 2 refl s
letter-step letter n k false false false false true f p q r s t u h = by-letter letter n 115 12 all-s t
letter-step letter n k false false false false false true p q r s t u h = by-letter letter n 97 8 all-a u
letter-step letter n k false false false false false false p q r s t u h = cc

letter-is : (letter n k : ℕ) → letter_register letter n ≡ Some k → is_lettered letter n ≡ true
letter-is letter n k h = letter-step letter n k _ _ _ _ _ _ refl refl refl refl refl refl h

then-step : (letter : ℕ) (rest : List ℕ) (k : ℕ) (o : Option ℕ) → index_of rest ≡ o → option_and_then (letter_register letter) o ≡ Some k → is_name (letter ∷ rest) ≡ true
then-step letter rest k None e h = cc
then-step letter rest k (Some n) e h = ap (λ (l : List ℕ). is_name (letter ∷ l)) (index-is rest n e) ∙ letter-is letter n k h

lettered : (w : List ℕ) (k : ℕ) → option_and_then (letter_register (slice_index w 0)) (index_of (drop 1 w)) ≡ Some k → is_name w ≡ true
unfolding index_of
lettered [] k h = cc
lettered (a ∷ rest) k h = then-step a rest k (index_of rest) refl h

name-step : (w : List ℕ) (k : ℕ) (a b c d e : Bool) (o : Option ℕ) → bytes_eq w (codes "zero") ≡ a → bytes_eq w (codes "ra") ≡ b → bytes_eq w (codes "sp") ≡ c → bytes_eq w (codes "gp") ≡ d → bytes_eq w (codes "tp") ≡ e
    → (o ≡ Some k → is_name w ≡ true) → cond a (Some 0) (cond b (Some 1) (cond c (Some 2) (cond d (Some 3) (cond e (Some 4) o)))) ≡ Some k → is_name w ≡ true
name-step w k true b c d e o p q r s t rest h = ap is_name (same-text w (codes "zero") p)
name-step w k false true c d e o p q r s t rest h = ap is_name (same-text w (codes "ra") q)
name-step w k false false true d e o p q r s t rest h = ap is_name (same-text w (codes "sp") r)
name-step w k false false false true e o p q r s t rest h = ap is_name (same-text w (codes "gp") s)
name-step w k false false false false true o p q r s t rest h = ap is_name (same-text w (codes "tp") t)
name-step w k false false false false false o p q r s t rest h = rest h

name-is : (w : List ℕ) (k : ℕ) → read.register_in w ≡ Some k → is_name w ≡ true
unfolding same_text
name-is w k h = name-step w k _ _ _ _ _ _ refl refl refl refl refl (lettered w k) h

-- ---- both

apart : (x : Bool) → x ≡ true → x ≡ false → ⊥
apart x e f = cc

no-name : (w : List ℕ) (k : ℕ) (o : Option ℕ) → position_from (bytes_eq w) 0 register_names ≡ o → is_some o ≡ false → read.register_in w ≡ Some k → ⊥
no-name w k o e none h = apart (is_some o) (ap (λ (q : Option ℕ). is_some q) (sym e) ∙ name-is w k h) none

register-step : (w : List ℕ) (o q : Option ℕ) → position_from (bytes_eq w) 0 register_names ≡ o → read.register_in w ≡ q → q ≡ option_map (λ n. n % 32) o
register-step w (Some j) q e f = sym f ∙ found-same 0 register_names w j names-read e
register-step w None None e f = refl
register-step w None (Some k) e f = absurd (no-name w k None e refl f)

pub register-same : (w : List ℕ) → read.register_in w ≡ register_in w
register-same w = register-step w (position_from (bytes_eq w) 0 register_names) (read.register_in w) refl refl
