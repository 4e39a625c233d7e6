-- The order of paths is a strict total order, and a path comes before those that go on from it. A rising list is determined by its paths.
use Rattle.std.proofs.Common.{◌≡◌, ℕ, zero, suc, ◌<◌, ◌≢◌, ◌⊎◌, inl, inr, List, [], ◌∷◌, ◌++◌, refl, sym, ap₂, ◌∙◌, subst, arith}
use Rattle.std.proofs.lemmas.Bool.{cases_order}
use Rattle.std.proofs.lemmas.List.Elements.{All-contains, Contains-append_right}
use Rattle.std.specs.List.{Contains}
use Rattle.space_model.specs.Space.{Space}
use Rattle.space_model.specs.PathOrder.{IsBefore, IsRising, ArePaths}

pub before_itself : (p : List ℕ) → IsBefore p p → ⊥
before_itself [] b = b
before_itself (n ∷ p) (inl less) = omega arith
before_itself (n ∷ p) (inr same) = before_itself p same.1

pub before_later : (p q r : List ℕ) → IsBefore p q → IsBefore q r → IsBefore p r
before_later p q [] a b = absurd b
before_later p [] (k ∷ r) a b = absurd a
before_later [] (m ∷ q) (k ∷ r) a b = tt
before_later (n ∷ p) (m ∷ q) (k ∷ r) (inl a) (inl b) = inl (omega arith)
before_later (n ∷ p) (m ∷ q) (k ∷ r) (inl a) (inr b) = inl (let e = b.0 in omega (arith, e))
before_later (n ∷ p) (m ∷ q) (k ∷ r) (inr a) (inl b) = inl (let e = a.0 in omega (arith, e))
before_later (n ∷ p) (m ∷ q) (k ∷ r) (inr a) (inr b) = inr (a.0 ∙ b.0, before_later p q r a.1 b.1)

-- of two paths that differ one comes first
pub one_before : (p q : List ℕ) → p ≢ q → IsBefore p q ⊎ IsBefore q p
one_before [] [] ne = absurd (ne refl)
one_before [] (m ∷ q) ne = inl tt
one_before (n ∷ p) [] ne = inr tt
one_before (n ∷ p) (m ∷ q) ne = by_number (cases_order n m) (λ e. one_before p q (λ same. ne (ap₂ (λ i is. i ∷ is) e same)))
  where
    from_rest : n ≡ m → IsBefore p q ⊎ IsBefore q p → IsBefore (n ∷ p) (m ∷ q) ⊎ IsBefore (m ∷ q) (n ∷ p)
    from_rest e (inl b) = inl (inr (e, b))
    from_rest e (inr b) = inr (inr (sym e, b))

    by_number : (n ≡ m) ⊎ ((n < m) ⊎ (m < n)) → (n ≡ m → IsBefore p q ⊎ IsBefore q p) → IsBefore (n ∷ p) (m ∷ q) ⊎ IsBefore (m ∷ q) (n ∷ p)
    by_number (inl e) rest = from_rest e (rest e)
    by_number (inr (inl less)) rest = inl (inl less)
    by_number (inr (inr less)) rest = inr (inl less)

pub before_longer : (p q : List ℕ) (n : ℕ) → IsBefore p (p ++ n ∷ q)
before_longer [] q n = tt
before_longer (m ∷ p) q n = inr (refl, before_longer p q n)

pub before_by_number : (r p q : List ℕ) (n m : ℕ) → n < m → IsBefore (r ++ n ∷ p) (r ++ m ∷ q)
before_by_number [] p q n m less = inl less
before_by_number (k ∷ r) p q n m less = inr (refl, before_by_number r p q n m less)

-- a path of a list is its first, or one of the others
front_or_rest : (q : List ℕ) (qs : List (List ℕ)) (x : List ℕ) → Contains (q ∷ qs) x → (q ≡ x) ⊎ Contains qs x
front_or_rest q qs x (zero, below, e) = inl e
front_or_rest q qs x (suc k, below, e) = inr (k, omega arith, e)

in_front : (q : List ℕ) (qs : List (List ℕ)) → Contains (q ∷ qs) q
in_front q qs = (0, omega arith, refl)

in_rest : (q : List ℕ) (qs : List (List ℕ)) (x : List ℕ) → Contains qs x → Contains (q ∷ qs) x
in_rest q qs x c = Contains-append_right (q ∷ []) qs x c

-- the first of a rising list comes before each path of it, or is that one
first_before : (q : List ℕ) (qs : List (List ℕ)) (x : List ℕ) → IsRising (q ∷ qs) → Contains (q ∷ qs) x → (q ≡ x) ⊎ IsBefore q x
first_before q qs x r c = go (front_or_rest q qs x c)
  where
    go : (q ≡ x) ⊎ Contains qs x → (q ≡ x) ⊎ IsBefore q x
    go (inl e) = inl e
    go (inr later) = inr (All-contains (IsBefore q) qs x r.0 later)

same_first : (p q : List ℕ) → (q ≡ p) ⊎ IsBefore q p → (p ≡ q) ⊎ IsBefore p q → p ≡ q
same_first p q (inl e) b = sym e
same_first p q (inr a) (inl e) = e
same_first p q (inr a) (inr b) = absurd (before_itself p (before_later p q p b a))

-- what stands in the rest of one list stands in the rest of the other
rest_within : (p : List ℕ) (ps qs : List (List ℕ)) → IsRising (p ∷ ps) → ((x : List ℕ) → Contains (p ∷ ps) x → Contains (p ∷ qs) x)
    → (x : List ℕ) → Contains ps x → Contains qs x
rest_within p ps qs r within x c = go (front_or_rest p qs x (within x (in_rest p ps x c)))
  where
    go : (p ≡ x) ⊎ Contains qs x → Contains qs x
    go (inl e) = absurd (before_itself x (subst (λ y. IsBefore y x) e (All-contains (IsBefore p) ps x r.0 c)))
    go (inr later) = later

none_within : (p : List ℕ) → Contains [] p → ⊥
none_within p c = let below = c.1 in omega (arith, below)

pub same_rising : (ps qs : List (List ℕ)) → IsRising ps → IsRising qs → ((x : List ℕ) → Contains ps x → Contains qs x)
    → ((x : List ℕ) → Contains qs x → Contains ps x) → ps ≡ qs
same_rising [] [] a b there back = refl
same_rising [] (q ∷ qs) a b there back = absurd (none_within q (back q (in_front q qs)))
same_rising (p ∷ ps) [] a b there back = absurd (none_within p (there p (in_front p ps)))
same_rising (p ∷ ps) (q ∷ qs) a b there back =
    let e : p ≡ q = same_first p q (first_before q qs p b (there p (in_front p ps))) (first_before p ps q a (back q (in_front q qs))) in
    let there' = subst (λ y. (x : List ℕ) → Contains (p ∷ ps) x → Contains (y ∷ qs) x) (sym e) there in
    let back' = subst (λ y. (x : List ℕ) → Contains (y ∷ qs) x → Contains (p ∷ ps) x) (sym e) back in
    let b' = subst (λ y. IsRising (y ∷ qs)) (sym e) b in
    ap₂ (λ y ys. y ∷ ys) e (same_rising ps qs a.1 b.1 (rest_within p ps qs a there') (rest_within p qs ps b' back'))

-- the list of the paths of a tree is one
pub one_list : (ps qs : List (List ℕ)) (s : Space) → ArePaths ps s → ArePaths qs s → ps ≡ qs
one_list ps qs s a b = same_rising ps qs a.rising b.rising (λ x c. (b.all x).1 ((a.all x).0 c)) (λ x c. (a.all x).1 ((b.all x).0 c))
