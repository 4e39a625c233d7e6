-- What a function makes of each number of a range, from the first number on.
use Rattle.std.proofs.Common.{◌≡◌, ℕ, zero, suc, ◌+◌, ◌-◌, ◌<◌, ◌≤◌, Bool, true, false, List, [], ◌∷◌, ◌++◌, map, Option, Some, None, refl, sym, ◌∙◌, ap, append_assoc, arith}
use Rattle.std.specs.Prelude.{slice_get}
use Rattle.std.specs.List.{cons_option, filter_map, find, range_with_len}
use Rattle.std.specs.Option.{option_to_list}
use Rattle.std.proofs.lemmas.List.{append-nil}

-- the next number of a range, and those behind it
pub next : (k count : ℕ) → k < count → range_with_len k (count - k) ≡ k ∷ range_with_len (k + 1) (count - (k + 1))
next k count lt = let more : count - k ≡ suc (count - (k + 1)) = omega arith in rw more refl

pub no_more : (k count : ℕ) → count ≤ k → range_with_len k (count - k) ≡ []
no_more k count le = let none : count - k ≡ 0 = omega arith in rw none refl

-- ---- the value of a number

numbered : {X : Type 0} (f : ℕ → X) (a count i : ℕ) → i < count → slice_get (map f (range_with_len a count)) i ≡ Some (f (a + i))
numbered f a zero i lt = absurd (omega (arith, lt))
numbered f a (suc count) zero lt = ap (λ (k : ℕ). Some (f k)) (omega arith)
numbered f a (suc count) (suc i) lt =
    let same : a + 1 + i ≡ a + suc i = omega arith in
    numbered f (a + 1) count i (omega (arith, lt)) ∙ ap (λ (k : ℕ). Some (f k)) same

pub none_numbered : {X : Type 0} (f : ℕ → X) (a count i : ℕ) → count ≤ i → slice_get (map f (range_with_len a count)) i ≡ None
none_numbered f a zero i le = refl
none_numbered f a (suc count) zero le = absurd (omega (arith, le))
none_numbered f a (suc count) (suc i) le = none_numbered f (a + 1) count i (omega (arith, le))

pub numbered_from_zero : {X : Type 0} (f : ℕ → X) (count i : ℕ) → i < count → slice_get (map f (range_with_len 0 count)) i ≡ Some (f i)
numbered_from_zero f count i lt = let same : 0 + i ≡ i = omega arith in numbered f 0 count i lt ∙ ap (λ (k : ℕ). Some (f k)) same

-- ---- the first value that passes a test

pub begins : {X : Type 0} (p : X → Bool) (f : ℕ → X) (count : ℕ) → find p (map f (range_with_len 0 (count - 0))) ≡ find p (map f (range_with_len 0 count))
begins p f count = let all : count - 0 ≡ count = omega arith in ap (λ (n : ℕ). find p (map f (range_with_len 0 n))) all

pub found_here : {X : Type 0} (p : X → Bool) (f : ℕ → X) (k count : ℕ) (total : Option X) → k < count → p (f k) ≡ true → find p (map f (range_with_len k (count - k))) ≡ total → Some (f k) ≡ total
found_here p f k count total lt passes so_far = rw (next k count lt, passes) at so_far

pub not_here : {X : Type 0} (p : X → Bool) (f : ℕ → X) (k count : ℕ) (total : Option X) → k < count → p (f k) ≡ false → find p (map f (range_with_len k (count - k))) ≡ total → find p (map f (range_with_len (k + 1) (count - (k + 1)))) ≡ total
not_here p f k count total lt fails so_far = rw (next k count lt, fails) at so_far

pub nowhere : {X : Type 0} (p : X → Bool) (f : ℕ → X) (k count : ℕ) (total : Option X) → count ≤ k → find p (map f (range_with_len k (count - k))) ≡ total → None ≡ total
nowhere p f k count total le so_far = rw (no_more k count le) at so_far

-- ---- the values that there are

made : {X : Type 0} (o : Option X) (front xs : List X) → (front ++ option_to_list o) ++ xs ≡ front ++ cons_option o xs
made {X} None front xs = ap (λ (l : List X). l ++ xs) (append-nil front)
made (Some x) front xs = append_assoc front (x ∷ []) xs

pub one_more : {X : Type 0} (f : ℕ → Option X) (k count : ℕ) (front longer total : List X) → k < count → longer ≡ front ++ option_to_list (f k) → front ++ filter_map f (range_with_len k (count - k)) ≡ total
    → longer ++ filter_map f (range_with_len (k + 1) (count - (k + 1))) ≡ total
one_more f k count front longer total lt is so_far = rw (is, made) (rw (next k count lt) at so_far)

pub all_made : {X : Type 0} (f : ℕ → Option X) (k count : ℕ) (front total : List X) → count ≤ k → front ++ filter_map f (range_with_len k (count - k)) ≡ total → front ≡ total
all_made f k count front total le so_far = sym (append-nil front) ∙ (rw (no_more k count le) at so_far)
