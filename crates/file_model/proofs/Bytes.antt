-- Bytes in a row, and bytes with others over them.
use Rattle.std.proofs.Common.{◌≡◌, ℕ, zero, suc, ◌+◌, ◌-◌, ◌<◌, ◌≤◌, ◌⊎◌, inl, inr, true, false, cond, List, [], ◌∷◌, ◌++◌, length, take, drop, get_or, refl, ap, sym, ◌∙◌, arith, length-append, get_or-take, nat_eq}
use Rattle.std.proofs.lemmas.Bool.Decides.{nat_tests}
use Rattle.std.proofs.lemmas.Bool.{cases_lt, cases_order}
use Rattle.std.proofs.lemmas.List.{get_or-append_right, get_or_append_left, length-take-le}
use Rattle.file_model.specs.Slots.{bytes_from, with_bytes}

pub length-bytes_from : (b : ℕ → ℕ) (at n : ℕ) → length (bytes_from b at n) ≡ n
unfolding bytes_from
length-bytes_from b at zero = refl
length-bytes_from b at (suc n) = ap suc (length-bytes_from b (at + 1) n)

pub index-bytes_from : (b : ℕ → ℕ) (at n i : ℕ) → i < n → get_or (bytes_from b at n) i 0 ≡ b (at + i)
unfolding bytes_from
index-bytes_from b at zero i h = absurd (omega arith)
index-bytes_from b at (suc n) zero h = ap b (omega arith)
index-bytes_from b at (suc n) (suc i) h = index-bytes_from b (at + 1) n i (omega arith) ∙ ap b (omega arith)

-- the first of n bytes, and those after it
pub bytes_next : (b : ℕ → ℕ) (at i n : ℕ) → i < n → bytes_from b (at + i) (n - i) ≡ b (at + i) ∷ bytes_from b (at + (i + 1)) (n - (i + 1))
unfolding bytes_from
bytes_next b at i n h =
    let e : n - i ≡ suc (n - (i + 1)) = omega arith in
    let f : at + i + 1 ≡ at + (i + 1) = omega arith in
    ap (bytes_from b (at + i)) e ∙ ap (λ a. b (at + i) ∷ bytes_from b a (n - (i + 1))) f

-- bytes that are alike are alike in a row
pub same_bytes_from : (b d : ℕ → ℕ) (at n : ℕ) → ((i : ℕ) → i < n → b (at + i) ≡ d (at + i)) → bytes_from b at n ≡ bytes_from d at n
unfolding bytes_from
same_bytes_from b d at zero h = refl
same_bytes_from b d at (suc n) h =
    let z : at + 0 ≡ at = omega arith in
    let here : b at ≡ d at = ap b (sym z) ∙ h 0 (omega arith) ∙ ap d z in
    let rest : bytes_from b (at + 1) n ≡ bytes_from d (at + 1) n = same_bytes_from b d (at + 1) n (λ i l.
    let e : at + 1 + i ≡ at + (i + 1) = omega arith in
    ap b e ∙ h (i + 1) (omega arith) ∙ ap d (sym e)) in
    λ i. here i ∷ rest i

test_same : (a b : ℕ) → a ≡ b → nat_eq a b ≡ true
test_same a b e = grind (arith, nat_tests)

test_other : (a b : ℕ) → (a ≡ b → ⊥) → nat_eq a b ≡ false
test_other a b h = grind (arith, nat_tests)

pub with_bytes_inside : (b : ℕ → ℕ) (at : ℕ) (part : List ℕ) (a : ℕ) → at ≤ a → a < at + length part → with_bytes b at part a ≡ get_or part (a - at) 0
unfolding with_bytes
with_bytes_inside b at part a h l = grind (arith, nat_tests)

pub with_bytes_before : (b : ℕ → ℕ) (at : ℕ) (part : List ℕ) (a : ℕ) → a < at → with_bytes b at part a ≡ b a
unfolding with_bytes
with_bytes_before b at part a h = grind (arith, nat_tests)

pub with_bytes_after : (b : ℕ → ℕ) (at : ℕ) (part : List ℕ) (a : ℕ) → at + length part ≤ a → with_bytes b at part a ≡ b a
unfolding with_bytes
with_bytes_after b at part a h = grind (arith, nat_tests)

pub drop-bytes_from : (b : ℕ → ℕ) (at n m : ℕ) → drop m (bytes_from b at n) ≡ bytes_from b (at + m) (n - m)
unfolding bytes_from
drop-bytes_from b at n zero =
    let e : at ≡ at + 0 = omega arith in
    let f : n ≡ n - 0 = omega arith in
    λ i. bytes_from b (e i) (f i)
drop-bytes_from b at zero (suc m) = let e : 0 ≡ 0 - suc m = omega arith in ap (bytes_from b (at + suc m)) e
drop-bytes_from b at (suc n) (suc m) =
    let e : at + 1 + m ≡ at + suc m = omega arith in
    let f : n - m ≡ suc n - suc m = omega arith in
    drop-bytes_from b (at + 1) n m ∙ (λ i. bytes_from b (e i) (f i))

pub take-bytes_from : (b : ℕ → ℕ) (at n m : ℕ) → m ≤ n → take m (bytes_from b at n) ≡ bytes_from b at m
unfolding bytes_from
take-bytes_from b at n zero h = refl
take-bytes_from b at zero (suc m) h = absurd (omega arith)
take-bytes_from b at (suc n) (suc m) h = ap (λ xs. b at ∷ xs) (take-bytes_from b (at + 1) n m (omega arith))

pub nothing_at : (b : ℕ → ℕ) (at a : ℕ) → with_bytes b at [] a ≡ b a
nothing_at b at a = elim (cases_lt a at) [ inl l ↦ with_bytes_before b at [] a l | inr g ↦ with_bytes_after b at [] a (omega arith) ]

-- nothing over them leaves bytes as they are
pub with_bytes_nothing : (b : ℕ → ℕ) (at : ℕ) → with_bytes b at [] ≡ b
with_bytes_nothing b at = λ i a. nothing_at b at a i

joined_behind : (b : ℕ → ℕ) (at : ℕ) (xs ys : List ℕ) (a : ℕ) → at + length xs ≤ a → with_bytes (with_bytes b at xs) (at + length xs) ys a ≡ with_bytes b at (xs ++ ys) a
joined_behind b at xs ys a h = elim (cases_lt a (at + length xs + length ys)) [
  | inl l ↦
      let e : a - (at + length xs) ≡ a - at - length xs = omega arith in
      with_bytes_inside (with_bytes b at xs) (at + length xs) ys a h l ∙ ap (λ k. get_or ys k 0) e
      ∙ sym (get_or-append_right xs ys (length xs) (a - at) 0 refl (omega arith)) ∙ sym (with_bytes_inside b at (xs ++ ys) a (omega arith) (omega (arith, length-append xs ys)))
  | inr g ↦ with_bytes_after (with_bytes b at xs) (at + length xs) ys a g ∙ with_bytes_after b at xs a h ∙ sym (with_bytes_after b at (xs ++ ys) a (omega (arith, length-append xs ys)))
]

joined_from : (b : ℕ → ℕ) (at : ℕ) (xs ys : List ℕ) (a : ℕ) → at ≤ a → with_bytes (with_bytes b at xs) (at + length xs) ys a ≡ with_bytes b at (xs ++ ys) a
joined_from b at xs ys a g = elim (cases_lt a (at + length xs)) [
  | inl l ↦ with_bytes_before (with_bytes b at xs) (at + length xs) ys a l ∙ with_bytes_inside b at xs a g l
      ∙ sym (get_or_append_left xs ys 0 (a - at) (omega arith)) ∙ sym (with_bytes_inside b at (xs ++ ys) a g (omega (arith, length-append xs ys)))
  | inr h ↦ joined_behind b at xs ys a h
]

joined_at : (b : ℕ → ℕ) (at : ℕ) (xs ys : List ℕ) (a : ℕ) → with_bytes (with_bytes b at xs) (at + length xs) ys a ≡ with_bytes b at (xs ++ ys) a
joined_at b at xs ys a = elim (cases_lt a at) [
  | inl l ↦ with_bytes_before (with_bytes b at xs) (at + length xs) ys a (omega arith) ∙ with_bytes_before b at xs a l ∙ sym (with_bytes_before b at (xs ++ ys) a l)
  | inr g ↦ joined_from b at xs ys a g
]

-- one part right behind another
pub with_bytes_twice : (b : ℕ → ℕ) (at : ℕ) (xs ys : List ℕ) → with_bytes (with_bytes b at xs) (at + length xs) ys ≡ with_bytes b at (xs ++ ys)
with_bytes_twice b at xs ys = λ i a. joined_at b at xs ys a i

same_from : (b : ℕ → ℕ) (at n a : ℕ) → at ≤ a → with_bytes b at (bytes_from b at n) a ≡ b a
same_from b at n a g = elim (cases_lt a (at + n)) [
  | inl l ↦
      let e : at + (a - at) ≡ a = omega arith in
      with_bytes_inside b at (bytes_from b at n) a g (omega (arith, length-bytes_from b at n)) ∙ index-bytes_from b at n (a - at) (omega arith) ∙ ap b e
  | inr h ↦ with_bytes_after b at (bytes_from b at n) a (omega (arith, length-bytes_from b at n))
]

same_at : (b : ℕ → ℕ) (at n a : ℕ) → with_bytes b at (bytes_from b at n) a ≡ b a
same_at b at n a = elim (cases_lt a at) [
  | inl l ↦ with_bytes_before b at (bytes_from b at n) a l
  | inr g ↦ same_from b at n a g
]

-- what stood there already
pub with_bytes_same : (b : ℕ → ℕ) (at n : ℕ) → with_bytes b at (bytes_from b at n) ≡ b
with_bytes_same b at n = λ i a. same_at b at n a i

more_before : (b : ℕ → ℕ) (at : ℕ) (part : List ℕ) (i a : ℕ) → i < length part → a < at + i → with_bytes b at (take i part) a ≡ with_bytes b at (take (i + 1) part) a
more_before b at part i a h l = elim (cases_lt a at) [
  | inl m ↦ with_bytes_before b at (take i part) a m ∙ sym (with_bytes_before b at (take (i + 1) part) a m)
  | inr g ↦
      with_bytes_inside b at (take i part) a g (omega (arith, length-take-le i part (omega arith))) ∙ get_or-take i part (a - at) 0 (omega arith)
      ∙ sym (get_or-take (i + 1) part (a - at) 0 (omega arith)) ∙ sym (with_bytes_inside b at (take (i + 1) part) a g (omega (arith, length-take-le (i + 1) part (omega arith))))
]

more_other : (b : ℕ → ℕ) (at : ℕ) (part : List ℕ) (i a : ℕ) → i < length part → ((a < at + i) ⊎ (at + i < a)) → cond (nat_eq a (at + i)) (get_or part i 0) (with_bytes b at (take i part) a) ≡ with_bytes b at (take (i + 1) part) a
more_other b at part i a h (inl l) =
    let t : nat_eq a (at + i) ≡ false = test_other a (at + i) (λ e. omega arith) in
    ap (λ s. cond s (get_or part i 0) (with_bytes b at (take i part) a)) t ∙ more_before b at part i a h l
more_other b at part i a h (inr g) =
    let t : nat_eq a (at + i) ≡ false = test_other a (at + i) (λ e. omega arith) in
    ap (λ s. cond s (get_or part i 0) (with_bytes b at (take i part) a)) t
    ∙ with_bytes_after b at (take i part) a (omega (arith, length-take-le i part (omega arith))) ∙ sym (with_bytes_after b at (take (i + 1) part) a (omega (arith, length-take-le (i + 1) part (omega arith))))

-- one byte more of a part
pub with_bytes_more : (b : ℕ → ℕ) (at : ℕ) (part : List ℕ) (i a : ℕ) → i < length part → cond (nat_eq a (at + i)) (get_or part i 0) (with_bytes b at (take i part) a) ≡ with_bytes b at (take (i + 1) part) a
with_bytes_more b at part i a h = elim (cases_order a (at + i)) [
  | inl e ↦
      let t : nat_eq a (at + i) ≡ true = test_same a (at + i) e in
      let k : a - at ≡ i = omega arith in
      ap (λ s. cond s (get_or part i 0) (with_bytes b at (take i part) a)) t ∙ sym (get_or-take (i + 1) part i 0 (omega arith))
      ∙ ap (λ j. get_or (take (i + 1) part) j 0) (sym k) ∙ sym (with_bytes_inside b at (take (i + 1) part) a (omega arith) (omega (arith, length-take-le (i + 1) part (omega arith))))
  | inr o ↦ more_other b at part i a h o
]
