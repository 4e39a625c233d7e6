-- Lists of views, and of what they know.
use Rattle.std.proofs.Common.{◌≡◌, ◌≢◌, ℕ, suc, zero, ◌+◌, ◌<◌, ◌≤◌, true, false, List, [], ◌∷◌, ◌++◌, length, Option, Some, None, refl, sym, ap, ◌∙◌, arith, set, inl, inr, ◌⊎◌, true≢false}
use mathlib.Core.Option.{some}
use lib.ListN.{get_elem?}
use Rattle.atomic_table.proofs.Lists.{at_set, at_map, at_snoc, at_longer, set_again, set_else}
use Rattle.ticket_lock.specs.declared.view.View.{View}
use Rattle.ticket_lock.specs.Rule.{total, waits, one_if, known}

module _ {A : Type 0} where
  pub total-set : (f : A → ℕ) (vs : List A) (i : ℕ) (v w : A) → get_elem? vs i ≡ some v → total f (set vs i w) + f v ≡ total f vs + f w
  total-set f [] i v w at = cc
  total-set f (x ∷ xs) zero v w at = let e : x ≡ v = cc in let h = ap f e in omega (arith, h)
  total-set f (x ∷ xs) (suc i) v w at = omega (arith, total-set f xs i v w at)

  pub total-snoc : (f : A → ℕ) (vs : List A) (v : A) → total f (vs ++ v ∷ []) ≡ total f vs + f v
  total-snoc f [] v = omega arith
  total-snoc f (x ∷ xs) v = omega (arith, total-snoc f xs v)

  pub there : (vs : List A) (i : ℕ) (v : A) → get_elem? vs i ≡ some v → i < length vs
  there [] i v at = cc
  there (x ∷ xs) zero v at = omega arith
  there (x ∷ xs) (suc i) v at = omega (arith, there xs i v at)

module _ {S C : Type 0} where
  -- no more passes wait than there are
  pub few_wait : (vs : List (View S C)) → total waits vs ≤ length vs
  few_wait [] = omega arith
  few_wait (x ∷ xs) = omega (arith, few_wait xs, one x.ticket)
    where
      one : (o : Option ℕ) → one_if o ≤ 1
      one None = omega arith
      one (Some t) = omega arith

  pub known_set : (vs : List (View S C)) (i : ℕ) (w : View S C) → known (set vs i w) ≡ set (known vs) i w.core
  known_set [] i w = refl
  known_set (x ∷ xs) zero w = refl
  known_set (x ∷ xs) (suc i) w = λ k. x.core ∷ known_set xs i w k

  pub known_at : (vs : List (View S C)) (i : ℕ) (v : View S C) → get_elem? vs i ≡ some v → get_elem? (known vs) i ≡ some v.core
  known_at vs i v at = at_map (λ (v : View S C). v.core) vs i v at

  pub known_same : (vs : List (View S C)) (i : ℕ) (v w : View S C) → get_elem? vs i ≡ some v → w.core ≡ v.core → known (set vs i w) ≡ known vs
  known_same vs i v w at same = known_set vs i w ∙ (ap (set (known vs) i) same ∙ set_again (known vs) i v.core (known_at vs i v at))

  pub known_length : (vs : List (View S C)) → length (known vs) ≡ length vs
  known_length [] = refl
  known_length (x ∷ xs) = ap suc (known_length xs)

  pub known_snoc : (vs : List (View S C)) (v : View S C) → known (vs ++ v ∷ []) ≡ known vs ++ v.core ∷ []
  known_snoc [] v = refl
  known_snoc (x ∷ xs) v = λ k. x.core ∷ known_snoc xs v k

  -- it has a ticket, or the value
  abbrev pub IsBusy : View S C → Type 0
  IsBusy v = (v.has ≡ true) ⊎ ((t : ℕ) × (v.ticket ≡ Some t))

  -- a view that has neither
  pub record IsIdle (v : View S C) : Type 0 where
    pub ticket : v.ticket ≡ None
    pub lacks : v.has ≡ false

  pub idle_not_busy : (v u : View S C) → IsIdle v → v ≡ u → IsBusy u → ⊥
  idle_not_busy v u idle same (inl has) = true≢false (sym has ∙ (ap (λ (x : View S C). x.has) (sym same) ∙ idle.lacks))
  idle_not_busy v u idle same (inr p) =
      let a : u.ticket ≡ None = ap (λ (x : View S C). x.ticket) (sym same) ∙ idle.ticket in
      let b = p.1 in
      cc

  -- the busy ones are the same in both lists
  pub record KeepsBusy (old new : List (View S C)) : Type 0 where
    pub back : (i : ℕ) (u : View S C) → get_elem? new i ≡ some u → IsBusy u → get_elem? old i ≡ some u
    pub forth : (i : ℕ) (u : View S C) → get_elem? old i ≡ some u → IsBusy u → get_elem? new i ≡ some u

  pub busy_set : (vs : List (View S C)) (i : ℕ) (v w : View S C) → get_elem? vs i ≡ some v → IsIdle v → IsIdle w → KeepsBusy vs (set vs i w)
  busy_set vs i v w at idle idle' = record { back = back; forth = forth }
    where
      back : (j : ℕ) (u : View S C) → get_elem? (set vs i w) j ≡ some u → IsBusy u → get_elem? vs j ≡ some u
      back j u here busy = go (at_set vs i j w u here)
        where
          go : ((j ≡ i) × (w ≡ u)) ⊎ ((j ≢ i) × (get_elem? vs j ≡ some u)) → get_elem? vs j ≡ some u
          go (inl p) = absurd (idle_not_busy w u idle' p.1 busy)
          go (inr p) = p.1

      forth : (j : ℕ) (u : View S C) → get_elem? vs j ≡ some u → IsBusy u → get_elem? (set vs i w) j ≡ some u
      forth j u here busy = set_else vs i j w (λ e. idle_not_busy v u idle (let both : some v ≡ some u = sym at ∙ (ap (get_elem? vs) (sym e) ∙ here) in cc) busy) ∙ here

  pub busy_snoc : (vs : List (View S C)) (w : View S C) → IsIdle w → KeepsBusy vs (vs ++ w ∷ [])
  busy_snoc vs w idle = record { back = λ j u here busy. go j u busy (at_snoc vs w u j here); forth = λ j u here busy. at_longer vs (w ∷ []) j u here }
    where
      go : (j : ℕ) (u : View S C) → IsBusy u → (get_elem? vs j ≡ some u) ⊎ (w ≡ u) → get_elem? vs j ≡ some u
      go j u busy (inl e) = e
      go j u busy (inr e) = absurd (idle_not_busy w u idle e busy)

  pub busy_trans : (a b c : List (View S C)) → KeepsBusy a b → KeepsBusy b c → KeepsBusy a c
  busy_trans a b c p q = record { back = λ i u here busy. p.back i u (q.back i u here busy) busy; forth = λ i u here busy. q.forth i u (p.forth i u here busy) busy }

  pub idle_waits : (v : View S C) → IsIdle v → waits v ≡ 0
  idle_waits v idle = ap one_if idle.ticket
