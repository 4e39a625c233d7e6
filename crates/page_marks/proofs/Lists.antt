-- Which numbers stand in a list after one of its places has changed.
use Rattle.std.specs.Prelude.{◌≡◌, ℕ, ◌+◌, ◌<◌, ◌==◌, ◌||◌, Bool, true, false, cond, List, [], ◌∷◌, length, slice_index, slice_index_or, slice_set, take}
use Rattle.std.proofs.Common.{refl, sym, ◌∙◌, ap, arith, inl, inr, eq-eqb, ne_eqb, zero, suc}
use Rattle.std.proofs.lemmas.Bool.{cases_eq, eqb-true, false≢true}
use Rattle.std.proofs.lemmas.List.Folds.{list_any_more}
use Rattle.page_marks.specs.Lists.{has_page}

-- a number stands where one place has it
pub has_at : (list : List ℕ) (i p : ℕ) → i < length list → slice_index list i ≡ p → has_page list p ≡ true
has_at [] i p below is = absurd (omega (arith, below))
has_at (q ∷ list) zero p below is = let e : (q == p) ≡ true = eq-eqb q p is in rw e refl
has_at (q ∷ list) (suc i) p below is =
    let h : has_page list p ≡ true = has_at list i p (omega (arith, below)) is in
    or_true (q == p) (has_page list p) h
  where
    or_true : (a b : Bool) → b ≡ true → (a || b) ≡ true
    or_true true b e = refl
    or_true false b e = e

-- and nowhere else
pub has_none : (list : List ℕ) (p : ℕ) → ((i : ℕ) → i < length list → slice_index list i ≡ p → ⊥) → has_page list p ≡ false
has_none [] p none = refl
has_none (q ∷ list) p none =
    let e : (q == p) ≡ false = ne_eqb q p (none 0 (omega arith)) in
    let h : has_page list p ≡ false = has_none list p (λ i below is. none (suc i) (omega (arith, below)) is) in
    rw e h

-- a number that stands somewhere has a place
has_some : (list : List ℕ) (p : ℕ) → has_page list p ≡ true → (i : ℕ) × (i < length list) × (slice_index list i ≡ p)
has_some [] p has = absurd (false≢true has)
has_some (q ∷ list) p has = go (has_some list p) (q == p) refl
  where
    go : (has_page list p ≡ true → (i : ℕ) × (i < length list) × (slice_index list i ≡ p)) → (b : Bool) → (q == p) ≡ b → (i : ℕ) × (i < length (q ∷ list)) × (slice_index (q ∷ list) i ≡ p)
    go below true e = (0, omega arith, eqb-true q p e)
    go below false e =
        let rest : has_page list p ≡ true = ap (λ b. b || has_page list p) (sym e) ∙ has in
        let m = below rest in
        (suc m.0, omega (arith, m.1), m.2)

pub has_not : (list : List ℕ) (i p : ℕ) → has_page list p ≡ false → i < length list → slice_index list i ≡ p → ⊥
has_not list i p none below is = false≢true (sym none ∙ has_at list i p below is)

-- another number is put where the page does not stand
pub has_set : (list : List ℕ) (i p q : ℕ) → i < length list → (slice_index list i ≡ q → ⊥) → has_page (slice_set list i p) q ≡ (p == q || has_page list q)
has_set [] i p q below other = absurd (omega (arith, below))
has_set (r ∷ list) zero p q below other = let e : (r == q) ≡ false = ne_eqb r q other in rw e refl
has_set (r ∷ list) (suc i) p q below other =
    let h : has_page (slice_set list i p) q ≡ (p == q || has_page list q) = has_set list i p q (omega (arith, below)) other in
    ap (λ b. r == q || b) h ∙ turn (r == q) (p == q) (has_page list q)
  where
    turn : (a b c : Bool) → (a || (b || c)) ≡ (b || (a || c))
    turn true true c = refl
    turn true false c = refl
    turn false b c = refl

-- a test of equal numbers reads either way
pub or_cond : (p q : ℕ) (b : Bool) → (p == q || b) ≡ cond (q == p) true b
or_cond p q b = elim (cases_eq q p) [
  | inl same ↦ let e : (p == q) ≡ true = eq-eqb p q (sym same) in let f : (q == p) ≡ true = eq-eqb q p same in rw (e, f) refl
  | inr other ↦ let e : (p == q) ≡ false = ne_eqb p q (λ is. other (sym is)) in let f : (q == p) ≡ false = ne_eqb q p other in rw (e, f) refl
]

-- all places that had a number are free
pub has_gone : (list new : List ℕ) (page free : ℕ) → length new ≡ length list → ((i : ℕ) → i < length list → slice_index new i ≡ cond (slice_index list i == page) free (slice_index list i)) → (q : ℕ) → (q ≡ free → ⊥) → has_page new q ≡ cond (q == page) false (has_page list q)
has_gone list new page free sized change q other_free = elim (cases_eq q page) [
  | inl same ↦
      let e : (q == page) ≡ true = eq-eqb q page same in
      let none : has_page new q ≡ false = has_none new q (λ i below is. elim (cases_eq (slice_index list i) page) [
        | inl gone ↦
            let f : (slice_index list i == page) ≡ true = eq-eqb (slice_index list i) page gone in
            other_free (sym is ∙ change i (omega (arith, below, sized)) ∙ ap (λ b. cond b free (slice_index list i)) f)
        | inr kept ↦
            let f : (slice_index list i == page) ≡ false = ne_eqb (slice_index list i) page kept in
            kept (sym (change i (omega (arith, below, sized)) ∙ ap (λ b. cond b free (slice_index list i)) f) ∙ is ∙ same)
      ]) in
      none ∙ sym (ap (λ b. cond b false (has_page list q)) e)
  | inr other ↦
      let e : (q == page) ≡ false = ne_eqb q page other in
      kept_as other ∙ sym (ap (λ b. cond b false (has_page list q)) e)
]
  where
    stays : (i : ℕ) → i < length list → (slice_index list i ≡ page → ⊥) → slice_index new i ≡ slice_index list i
    stays i below kept =
        let f : (slice_index list i == page) ≡ false = ne_eqb (slice_index list i) page kept in
        change i below ∙ ap (λ b. cond b free (slice_index list i)) f

    to : (q ≡ page → ⊥) → (b : Bool) → has_page list q ≡ b → has_page new q ≡ b
    to other true has =
        let m = has_some list q has in
        has_at new m.0 q (omega (arith, m.1, sized)) (stays m.0 m.1 (λ gone. other (sym m.2 ∙ gone)) ∙ m.2)
    to other false has = has_none new q (λ i below is. elim (cases_eq (slice_index list i) page) [
      | inl gone ↦
          let f : (slice_index list i == page) ≡ true = eq-eqb (slice_index list i) page gone in
          other_free (sym is ∙ change i (omega (arith, below, sized)) ∙ ap (λ b. cond b free (slice_index list i)) f)
      | inr kept ↦ has_not list i q has (omega (arith, below, sized)) (sym (stays i (omega (arith, below, sized)) kept) ∙ is)
    ])

    kept_as : (q ≡ page → ⊥) → has_page new q ≡ has_page list q
    kept_as other = to other (has_page list q) refl

-- one place more
pub has_more : (list : List ℕ) (i d p n : ℕ) → i < length list → slice_index_or list i d ≡ n → has_page (take (i + 1) list) p ≡ cond (n == p) true (has_page (take i list) p)
has_more list i d p n below is = list_any_more (λ q. q == p) list i d below ∙ ap (λ m. has_page (take i list) p || m == p) is ∙ turn (n == p) (has_page (take i list) p)
  where
    turn : (a b : Bool) → (b || a) ≡ cond a true b
    turn true true = refl
    turn true false = refl
    turn false true = refl
    turn false false = refl
