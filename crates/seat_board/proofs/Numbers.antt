-- The numbers of seats: each that was given is there once.
use Rattle.std.proofs.Common.{◌≡◌, ◌≢◌, ℕ, zero, suc, ◌+◌, ◌≤◌, ◌<◌, ◌==◌, Bool, true, false, List, [], ◌∷◌, ◌++◌, length, ◌⊎◌, inl, inr, if◌then◌else◌, refl, sym, ap, ◌∙◌, subst, arith}
use Rattle.std.proofs.lemmas.Bool.{cases_eq}
use Rattle.std.proofs.lemmas.Bool.Decides.{nat_tests}
use Rattle.std.specs.List.{All}
use Rattle.std.proofs.lemmas.List.Elements.{All-head, All-tail, All-map}
use mathlib.Core.Option.{some}
use lib.ListN.{get_elem?}
use Rattle.seat_board.specs.declared.known.Known.{Known}
use Rattle.seat_board.specs.Held.{Ended}
use Rattle.seat_board.specs.Seats.{times, numbers, living, one_if}

same_test : (n : ℕ) (b : Bool) (a : ℕ) → (n == n) ≡ b → (if b then 1 + a else a) ≡ 1 + a
same_test n true a e = refl
same_test n false a e = absurd (let one : (n == n) ≡ true = grind (arith, nat_tests) in cc)

other_test : (x n : ℕ) (b : Bool) (a : ℕ) → (x == n) ≡ b → x ≢ n → (if b then 1 + a else a) ≡ a
other_test x n true a e ne = absurd (ne (grind (arith, nat_tests)))
other_test x n false a e ne = refl

pub times_same : (n : ℕ) (xs : List ℕ) → times n (n ∷ xs) ≡ 1 + times n xs
times_same n xs = same_test n (n == n) (times n xs) refl

pub times_other : (x n : ℕ) (xs : List ℕ) → x ≢ n → times n (x ∷ xs) ≡ times n xs
times_other x n xs ne = other_test x n (x == n) (times n xs) refl ne

-- what an element adds to how often a number is in a list
hit : ℕ → ℕ → ℕ
hit x n = times n (x ∷ [])

times_more : (x n : ℕ) (xs : List ℕ) → times n (x ∷ xs) ≡ hit x n + times n xs
unfolding hit
times_more x n xs = go (cases_eq x n)
  where
    go : (x ≡ n) ⊎ (x ≢ n) → times n (x ∷ xs) ≡ times n (x ∷ []) + times n xs
    go (inl e) =
        let a : times n (x ∷ xs) ≡ 1 + times n xs = subst (λ y. times n (y ∷ xs) ≡ 1 + times n xs) (sym e) (times_same n xs) in
        let b : times n (x ∷ []) ≡ 1 + 0 = subst (λ y. times n (y ∷ []) ≡ 1 + 0) (sym e) (times_same n []) in
        omega (arith, a, b)
    go (inr ne) = let a = times_other x n xs ne in let b : times n (x ∷ []) ≡ 0 = times_other x n [] ne in omega (arith, a, b)

hit_same : (n : ℕ) → hit n n ≡ 1
unfolding hit
hit_same n = let a : times n (n ∷ []) ≡ 1 + 0 = times_same n [] in omega (arith, a)

hit_other : (x n : ℕ) → x ≢ n → hit x n ≡ 0
unfolding hit
hit_other x n ne = times_other x n [] ne

numbers_snoc : (es : List Ended) (e : Ended) (n : ℕ) → times n (numbers (es ++ e ∷ [])) ≡ times n (numbers es) + hit e.number n
unfolding hit
numbers_snoc [] e n = omega arith
numbers_snoc (x ∷ es) e n = let a = times_more x.number n (numbers (es ++ e ∷ [])) in let b = times_more x.number n (numbers es) in let c = numbers_snoc es e n in omega (arith, a, b, c)

-- one more has ended: its number is there once more, and no other is
pub one_more_ended : (es : List Ended) (e : Ended) (n : ℕ) → e.number ≡ n → times n (numbers (es ++ e ∷ [])) ≡ times n (numbers es) + 1
one_more_ended es e n same = let a = numbers_snoc es e n in let b = subst (λ m. hit e.number m ≡ 1) same (hit_same e.number) in omega (arith, a, b)

pub others_ended : (es : List Ended) (e : Ended) (n : ℕ) → e.number ≢ n → times n (numbers (es ++ e ∷ [])) ≡ times n (numbers es)
others_ended es e n ne = let a = numbers_snoc es e n in let b = hit_other e.number n ne in omega (arith, a, b)

-- a number above all of them is not among them
pub times_none : (es : List Ended) (n : ℕ) → All (λ (e : Ended). e.number < n) es → times n (numbers es) ≡ 0
times_none [] n all = refl
times_none (e ∷ es) n all =
    let low = All-head (λ (x : Ended). x.number < n) e es all in
    let ne : e.number ≢ n = λ same. omega (arith, low, same) in
    times_other e.number n (numbers es) ne ∙ times_none es n (All-tail (λ (x : Ended). x.number < n) e es all)

-- a sum over the places of a list, from a place on
along : (ℕ → ℕ) → ℕ → List Known → ℕ
along f i [] = 0
along f i (c ∷ cs) = f i + along f (suc i) cs

along_none : (i : ℕ) (cs : List Known) → along (λ n. times n []) i cs ≡ 0
unfolding along
along_none i [] = refl
along_none i (c ∷ cs) = omega (arith, along_none (suc i) cs)

along_more : (x i : ℕ) (xs : List ℕ) (cs : List Known) → along (λ n. times n (x ∷ xs)) i cs ≡ along (hit x) i cs + along (λ n. times n xs) i cs
unfolding along
along_more x i xs [] = omega arith
along_more x i xs (c ∷ cs) = let a = times_more x i xs in let b = along_more x (suc i) xs cs in omega (arith, a, b)

along_past : (x i : ℕ) (cs : List Known) → x < i → along (hit x) i cs ≡ 0
unfolding along
along_past x i [] lt = refl
along_past x i (c ∷ cs) lt = let a = hit_other x i (λ e. omega (arith, lt, e)) in let b = along_past x (suc i) cs (omega (arith, lt)) in omega (arith, a, b)

along_one : (x i : ℕ) (cs : List Known) → i ≤ x → x < i + length cs → along (hit x) i cs ≡ 1
unfolding along
along_one x i [] le lt = absurd (omega (arith, le, lt))
along_one x i (c ∷ cs) le lt = go (cases_eq x i) (λ ne. along_one x (suc i) cs (omega (arith, le, ne)) (omega (arith, lt)))
  where
    go : (x ≡ i) ⊎ (x ≢ i) → (x ≢ i → along (hit x) (suc i) cs ≡ 1) → hit x i + along (hit x) (suc i) cs ≡ 1
    go (inl e) rest = let a = subst (λ m. hit x m ≡ 1) e (hit_same x) in let b = along_past x (suc i) cs (omega (arith, e)) in omega (arith, a, b)
    go (inr ne) rest = let a = hit_other x i ne in let b = rest ne in omega (arith, a, b)

-- all of them are places
along_all : (xs : List ℕ) (cs : List Known) → All (λ x. x < length cs) xs → along (λ n. times n xs) 0 cs ≡ length xs
along_all [] cs all = along_none 0 cs
along_all (x ∷ xs) cs all =
    let low = All-head (λ y. y < length cs) x xs all in
    let a = along_more x 0 xs cs in
    let b = along_one x 0 cs (omega arith) (omega (arith, low)) in
    let c = along_all xs cs (All-tail (λ y. y < length cs) x xs all) in
    omega (arith, a, b, c)

along_each : (xs : List ℕ) (i : ℕ) (cs : List Known) → ((n : ℕ) (w : Known) → get_elem? cs n ≡ some w → one_if w.lives + times (i + n) xs ≡ 1) → living cs + along (λ n. times n xs) i cs ≡ length cs
unfolding along
along_each xs i [] each = omega arith
along_each xs i (c ∷ cs) each =
    let a = each 0 c refl in
    let b = along_each xs (suc i) cs (λ n w at. (let h = each (suc n) w at in let k : times (i + suc n) xs ≡ times (suc i + n) xs = ap (λ m. times m xs) (omega arith) in omega (arith, h, k))) in
    let d : times (i + 0) xs ≡ times i xs = ap (λ m. times m xs) (omega arith) in
    omega (arith, a, b, d)

numbers_length : (es : List Ended) → length (numbers es) ≡ length es
numbers_length [] = refl
numbers_length (e ∷ es) = ap suc (numbers_length es)

-- those that live and those that have ended are as many as there are
pub once_counted : (cs : List Known) (es : List Ended) → All (λ (e : Ended). e.number < length cs) es → ((n : ℕ) (w : Known) → get_elem? cs n ≡ some w → one_if w.lives + times n (numbers es) ≡ 1) → length es + living cs ≡ length cs
once_counted cs es all each =
    let a = along_all (numbers es) cs (All-map (λ x. x < length cs) (λ (e : Ended). e.number) es all) in
    let b = along_each (numbers es) 0 cs (λ n w at. (let h = each n w at in let k : times (0 + n) (numbers es) ≡ times n (numbers es) = ap (λ m. times m (numbers es)) (omega arith) in omega (arith, h, k))) in
    let c = numbers_length es in
    omega (arith, a, b, c)

-- what is below the length of a list
pub at_below : (cs : List Known) (n : ℕ) → n < length cs → (w : Known) × (get_elem? cs n ≡ some w)
at_below [] n lt = absurd (omega (arith, lt))
at_below (c ∷ cs) zero lt = (c, refl)
at_below (c ∷ cs) (suc n) lt = at_below cs n (omega (arith, lt))
