-- The last symbol that is not above an address is the one before the point that halving finds.
use Rattle.std.proofs.Common.{◌≡◌, ℕ, zero, suc, ◌-◌, ◌≤◌, ◌<◌, Bool, true, false, cond, leb, List, [], ◌∷◌, get_or, length, map, take, Some, None, option_map, filter, refl, sym, ap, ap₂, ◌∙◌, subst, subst₂, arith}
use Rattle.std.specs.List.Sorted.{IsPartitionPoint}
use Rattle.symbols.specs.declared.symbol.Symbol as code
use Rattle.symbols.specs.Symbols.{Symbol, last_of, place_at, place_from, symbol_of}

-- what passes a test up to a point, and nowhere behind it
passing : {X : Type 0} (p : X → Bool) (xs : List X) (k : ℕ) → IsPartitionPoint (λ x. p x ≡ true) (λ x. p x ≡ false) xs k → k ≤ length xs → filter p xs ≡ take k xs
passing p [] zero point l = refl
passing p [] (suc k) point l = absurd (omega arith)
passing p (x ∷ xs) zero point l =
    let rest = passing p xs zero ((λ i d low high. absurd (omega arith)), (λ i d low high. point.1 (suc i) d (omega arith) (omega arith))) (omega arith) in
    rw (point.1 0 x (omega arith) (omega arith)) rest
passing p (x ∷ xs) (suc k) point l =
    let rest = passing p xs k ((λ i d low high. point.0 (suc i) d (omega arith) (omega arith)), (λ i d low high. point.1 (suc i) d (omega arith) (omega arith))) (omega arith) in
    rw (point.0 0 x (omega arith) (omega arith)) (ap (λ t. x ∷ t) rest)

-- a filter of what the code has
pub filter_symbols : (p : Symbol → Bool) (xs : List code.Symbol) → filter p (map symbol_of xs) ≡ map symbol_of (filter (λ x. p (symbol_of x)) xs)
filter_symbols p [] = refl
filter_symbols p (x ∷ xs) = elim (p (symbol_of x)) as (λ b. cond b (symbol_of x ∷ filter p (map symbol_of xs)) (filter p (map symbol_of xs)) ≡ map symbol_of (cond b (x ∷ filter (λ x. p (symbol_of x)) xs) (filter (λ x. p (symbol_of x)) xs))) [
  | true ↦ ap (λ t. symbol_of x ∷ t) (filter_symbols p xs)
  | false ↦ filter_symbols p xs
]

-- the last of so many
last_symbol : (xs : List code.Symbol) (k : ℕ) (d : code.Symbol) → k < length xs → last_of (map symbol_of (take (suc k) xs)) ≡ Some (symbol_of (get_or xs k d))
last_symbol [] k d l = absurd (omega arith)
last_symbol (x ∷ xs) zero d l = refl
last_symbol (x ∷ []) (suc k) d l = absurd (omega arith)
last_symbol (x ∷ y ∷ xs) (suc k) d l = last_symbol (y ∷ xs) k d (omega arith)

abbrev pub IsPointAt : ℕ → List code.Symbol → ℕ → Type 0
IsPointAt a xs k = IsPartitionPoint (λ s. leb s.address a ≡ true) (λ s. leb s.address a ≡ false) xs k

-- where the point is at the front, every symbol is above the address
pub place_none : (a : ℕ) (xs : List code.Symbol) → IsPointAt a xs 0 → place_at (map symbol_of xs) a ≡ None
unfolding place_at
place_none a xs point =
    let front = passing (λ s. leb s.address a) xs 0 point (omega arith) in
    rw (filter_symbols (λ s. leb s.address a) xs, front) refl

-- else the one before the point is the last that is not
pub place_some : (a : ℕ) (xs : List code.Symbol) (k : ℕ) (d : code.Symbol) → IsPointAt a xs (suc k) → k < length xs → place_at (map symbol_of xs) a ≡ Some (place_from a (symbol_of (get_or xs k d)))
unfolding place_at
place_some a xs k d point l =
    let front = passing (λ s. leb s.address a) xs (suc k) point (omega arith) in
    rw (filter_symbols (λ s. leb s.address a) xs, front) (ap (option_map (place_from a)) (last_symbol xs k d l))

-- both, as the code has them
pub found_none : (a k : ℕ) (xs v : List code.Symbol) (seen : List Symbol) → map symbol_of xs ≡ seen → v ≡ xs → IsPointAt a v k → k ≡ 0 → None ≡ place_at seen a
found_none a k xs v seen is same point front =
    let at_front : IsPointAt a xs 0 = subst₂ (λ w n. IsPointAt a w n) same front point in
    sym (subst (λ s. place_at s a ≡ None) is (place_none a xs at_front))

pub found_some : (a k : ℕ) (xs v : List code.Symbol) (seen : List Symbol) (x : code.Symbol) (name : List ℕ) → map symbol_of xs ≡ seen → v ≡ xs → IsPointAt a v k → k ≤ length v → (k ≡ 0 → ⊥)
    → x ≡ get_or xs (k - 1) x → name ≡ x.name.items → Some (record { name = name; offset = a - x.address }) ≡ place_at seen a
found_some a zero xs v seen x name is same point bound some which text = absurd (some refl)
found_some a (suc k) xs v seen x name is same point bound some which text =
    let at_point : IsPointAt a xs (suc k) = subst (λ w. IsPointAt a w (suc k)) same point in
    let below : k < length xs = subst (λ w. k < length w) same (omega arith) in
    let here : Some (place_from a (symbol_of (get_or xs k x))) ≡ place_at seen a = sym (subst (λ s. place_at s a ≡ Some (place_from a (symbol_of (get_or xs k x)))) is (place_some a xs k x at_point below)) in
    let one_less : suc k - 1 ≡ k = omega arith in
    let it : x ≡ get_or xs k x = subst (λ n. x ≡ get_or xs n x) one_less which in
    ap₂ (λ n y. Some (record { name = n; offset = a - y })) (text ∙ ap (λ y. y.name.items) it) (ap (λ y. y.address) it) ∙ here
