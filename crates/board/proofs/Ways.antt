-- Paths on the way to another, and those of awaited children, one by one.
use Rattle.std.proofs.Common.{◌≡◌, ℕ, ◌+◌, ◌<◌, ◌≤◌, ◌==◌, ◌||◌, Bool, true, false, List, [], ◌∷◌, ◌++◌, length, take, Some, ◌⊎◌, inl, inr, refl, sym, ap, ap₂, ◌∙◌, subst, arith, true≢false}
use Rattle.std.proofs.lemmas.Bool.Decides.{nat_tests}
use Rattle.std.proofs.lemmas.Bool.{cases_eq}
use Rattle.std.specs.Prelude.{slice_get, Option, None, IfSome, Result, Ok, Err, OnOk, OnErr, is_err, is_ok}
use Rattle.std.proofs.lemmas.Option.{slice_get_within, get_or_from_slice_get}
use Rattle.std.proofs.lemmas.List.{take_all, take_more}
use Rattle.arrayvec.specs.ArrayVec.{ArrayVec}
use Rattle.space_model.specs.declared.Await.{Await}
use Rattle.det_laws.specs.Near.{is_awaited, IsOnWay, IsAwaitedBelow}
use Rattle.path_set.specs.Paths.{paths_in}
use Rattle.board.specs.Listed.{HasAll, HasWay, HasAwaited}

-- a path on the way to another is its beginning
way_take : (p q : List ℕ) → IsOnWay p q → (p ≡ take (length p) q) × (length p ≤ length q)
way_take [] q way = (refl, omega arith)
way_take (n ∷ p) [] way = absurd way
way_take (n ∷ p) (m ∷ q) way =
    let rest = way_take p q way.1 in
    let long = rest.1 in
    (ap₂ (λ i is. i ∷ is) way.0 rest.0, omega (arith, long))

-- all beginnings of a path that are shorter than this are there
abbrev pub HasShorter : (List ℕ → Type 0) → List ℕ → ℕ → Type 0
HasShorter has q length' = (p : List ℕ) → IsOnWay p q → length p < length' → has p

pub none_shorter : (has : List ℕ → Type 0) (q : List ℕ) → HasShorter has q 0
none_shorter has q p way short = absurd (omega (arith, short))

pub one_longer : (has new : List ℕ → Type 0) (q : List ℕ) (n : ℕ) → HasShorter has q n → HasAll new has → new (take n q) → HasShorter new q (n + 1)
one_longer has new q n so_far all there p way short = go (cases_eq (length p) n)
  where
    go : (length p ≡ n) ⊎ (length p ≡ n → ⊥) → new p
    go (inl e) = subst new (sym ((way_take p q way).0 ∙ ap (λ i. take i q) e)) there
    go (inr ne) = all p (so_far p way (omega (arith, short, ne)))

pub whole_way : (has : List ℕ → Type 0) (q : List ℕ) (n : ℕ) → length q < n → HasShorter has q n → HasWay has q
whole_way has q n past so_far p way = let long = (way_take p q way).1 in so_far p way (omega (arith, past, long))

-- the path of a child that is awaited
pub awaited_path : (all : List Await) (p q : List ℕ) → IsAwaitedBelow all p q → (n : ℕ) × (p ≡ q ++ n ∷ []) × (is_awaited n all ≡ true)
awaited_path all [] [] below = absurd below
awaited_path all (n ∷ []) [] below = (n, refl, below)
awaited_path all (n ∷ m ∷ p) [] below = absurd below
awaited_path all [] (m ∷ q) below = absurd below
awaited_path all (n ∷ p) (m ∷ q) below = let rest = awaited_path all p q below.1 in (rest.0, ap₂ (λ i is. i ∷ is) below.0 rest.1, rest.2)

-- the first so many of those awaited are there
abbrev pub HasSome : (List ℕ → Type 0) → List Await → List ℕ → Type 0
HasSome has all q = (n : ℕ) → length q < 8 → is_awaited n all ≡ true → has (q ++ n ∷ [])

pub none_awaited : (has : List ℕ → Type 0) (q : List ℕ) → HasSome has [] q
none_awaited has q n short is = absurd (true≢false (sym is))

either : (a b : Bool) → (a || b) ≡ true → (a ≡ true) ⊎ (b ≡ true)
either true b h = inl refl
either false b h = inr h

append_awaited : (n : ℕ) (all : List Await) (a : Await) → is_awaited n (all ++ a ∷ []) ≡ true → (is_awaited n all ≡ true) ⊎ (n ≡ a.number)
append_awaited n [] a is = go (either (n == a.number) false is)
  where
    go : ((n == a.number) ≡ true) ⊎ (false ≡ true) → (is_awaited n [] ≡ true) ⊎ (n ≡ a.number)
    go (inl e) = inr (grind (arith, nat_tests))
    go (inr e) = absurd (true≢false (sym e))
append_awaited n (b ∷ all) a is = go (either (n == b.number) (is_awaited n (all ++ a ∷ [])) is) (λ later. append_awaited n all a later)
  where
    or_true : (x : Bool) → (x || true) ≡ true
    or_true true = refl
    or_true false = refl

    more : (is_awaited n all ≡ true) ⊎ (n ≡ a.number) → (is_awaited n (b ∷ all) ≡ true) ⊎ (n ≡ a.number)
    more (inl h) = inl (ap (λ x. (n == b.number) || x) h ∙ or_true (n == b.number))
    more (inr e) = inr e

    go : ((n == b.number) ≡ true) ⊎ (is_awaited n (all ++ a ∷ []) ≡ true) → (is_awaited n (all ++ a ∷ []) ≡ true → (is_awaited n all ≡ true) ⊎ (n ≡ a.number)) → (is_awaited n (b ∷ all) ≡ true) ⊎ (n ≡ a.number)
    go (inl e) rec = inl (ap (λ x. x || is_awaited n all) e)
    go (inr later) rec = more (rec later)

pub one_more_awaited : (has new : List ℕ → Type 0) (all more : List Await) (a : Await) (q : List ℕ) → more ≡ all ++ a ∷ [] → HasSome has all q → HasAll new has → (length q < 8 → new (q ++ a.number ∷ [])) → HasSome new more q
one_more_awaited has new all more a q is so_far others there n short awaited = go (append_awaited n all a (ap (is_awaited n) (sym is) ∙ awaited))
  where
    go : (is_awaited n all ≡ true) ⊎ (n ≡ a.number) → new (q ++ n ∷ [])
    go (inl h) = others (q ++ n ∷ []) (so_far n short h)
    go (inr e) = subst (λ i. new (q ++ i ∷ [])) (sym e) (there short)

pub length_one_more : (q : List ℕ) (n : ℕ) → length (q ++ n ∷ []) ≡ length q + 1
length_one_more [] n = refl
length_one_more (m ∷ q) n = let rest = length_one_more q n in omega (arith, rest)

pub all_awaited : (has : List ℕ → Type 0) (all : List Await) (q : List ℕ) → HasSome has all q → HasAwaited has all q
all_awaited has all q so_far p short below =
    let path = awaited_path all p q below in
    let long = ap length path.1 ∙ length_one_more q path.0 in
    subst has (sym path.1) (so_far path.0 (omega (arith, short, long)) path.2)

pub paths-append : (ps : List (ArrayVec ℕ)) (p : ArrayVec ℕ) → paths_in (ps ++ p ∷ []) ≡ paths_in ps ++ p.items ∷ []
paths-append [] p = refl
paths-append (q ∷ ps) p = ap (λ x. q.items ∷ x) (paths-append ps p)

-- the next of those awaited
pub next_awaited : (all : List Await) (i : ℕ) (a : Await) → slice_get all i ≡ Some a → take (i + 1) all ≡ take i all ++ a ∷ []
next_awaited all i a is = let within = slice_get_within all i a is in take_more all i a within ∙ ap (λ x. take i all ++ x ∷ []) (get_or_from_slice_get all i a a is)

-- where all were gone through
pub awaited_end : (has : List ℕ → Type 0) (all named : List Await) (q : List ℕ) (i : ℕ) → HasSome has (take i all) q → length all ≤ i → all ≡ named → HasAwaited has named q
awaited_end has all named q i so_far past is =
    subst (λ xs. HasAwaited has xs q) is (all_awaited has all q (subst (λ xs. HasSome has xs q) (take_all i all past) so_far))

-- what holds at Ok holds where the result is no error
pub of_ok : {T E : Type 0} (r : Result T E) (P : Type 0) {b : Bool} → b ≡ false → b ≡ is_err r → OnOk r P → P
of_ok (Ok x) P no_error told holds = holds
of_ok (Err e) P no_error told holds = absurd (true≢false (sym told ∙ no_error))

-- and what holds at Err where it is not Ok
pub of_err : {T E : Type 0} (r : Result T E) (P : Type 0) {b : Bool} → b ≡ false → b ≡ is_ok r → OnErr r P → P
of_err (Ok x) P no_ok told holds = absurd (true≢false (sym told ∙ no_ok))
of_err (Err e) P no_ok told holds = holds

pub if_some_weaker : {T : Type 0} (o : Option T) (P Q : T → Type 0) → ((x : T) → P x → Q x) → IfSome o P → IfSome o Q
if_some_weaker None P Q f h = tt
if_some_weaker (Some x) P Q f h = f x h

pub on_err : {T E : Type 0} (r : Result T E) (P : Type 0) → P → OnErr r P
on_err (Ok x) P h = tt
on_err (Err e) P h = h
