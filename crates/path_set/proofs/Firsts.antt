-- The first of some paths, in the order in which a set of the library keeps them.
use Rattle.std.proofs.Common.{◌≡◌, ℕ, suc, ◌==◌, nat_lt, ◌⊎◌, Bool, true, false, cond, List, [], ◌∷◌, map, inl, inr, refl, sym, ap, ap₂, ◌∙◌, arith, subst, true≢false, ◌+◌}
use Rattle.std.proofs.lemmas.Bool.Decides.{nat_tests}
use Rattle.std.specs.Prelude.{Option, Some, None, slice_get, IfSome, IsNone, IsSome, ◌↔◌, length, ◌<◌}
use Rattle.std.specs.List.{All}
use Rattle.std.specs.Ordering.{is_gt, nat_cmp, ordering_then}
use Rattle.std.specs.declared.cmp.Ordering.{Ordering}
use Rattle.std.specs.declared.cmp.Ordering.TheVariants.{Less, Equal, Greater}
use Rattle.std.specs.BTreeMap.Range.{IsLeBy, IsLtBy}
use Rattle.std.proofs.lemmas.List.Elements.{All-head, All-tail}
use Rattle.std.specs.Cmp.Lexicographic.{slice_cmp}
use Rattle.arrayvec.specs.ArrayVec.{ArrayVec}
use Rattle.space_model.specs.PathOrder.{IsBefore}
use Rattle.path_set.specs.Paths.{Paths, paths_in, Has, rest_of, IsFirst, IsTakenFrom}

abbrev pub path_cmp : ArrayVec ℕ → ArrayVec ℕ → Ordering
path_cmp p q = slice_cmp nat_cmp p.items q.items

-- a path that does not come behind another is that one, or comes before it
not_behind : (p q : List ℕ) → is_gt (slice_cmp nat_cmp p q) ≡ false → (q ≡ p) ⊎ IsBefore p q
not_behind [] [] h = inl refl
not_behind [] (m ∷ q) h = inr tt
not_behind (n ∷ p) [] h = absurd (true≢false h)
not_behind (n ∷ p) (m ∷ q) h = go (nat_lt n m) refl (n == m) refl h (λ below. not_behind p q below)
  where
    go : (l : Bool) → nat_lt n m ≡ l → (e : Bool) → (n == m) ≡ e → is_gt (ordering_then (cond l Less (cond e Equal Greater)) (slice_cmp nat_cmp p q)) ≡ false
        → (is_gt (slice_cmp nat_cmp p q) ≡ false → (q ≡ p) ⊎ IsBefore p q) → (m ∷ q ≡ n ∷ p) ⊎ ((n < m) ⊎ ((n ≡ m) × IsBefore p q))
    go true less e is h rec = let lt : n < m = grind (arith, nat_tests) in inr (inl lt)
    go false more true is h rec = let same : n ≡ m = grind (arith, nat_tests) in both same (rec h)
      where
        both : n ≡ m → (q ≡ p) ⊎ IsBefore p q → (m ∷ q ≡ n ∷ p) ⊎ ((n < m) ⊎ ((n ≡ m) × IsBefore p q))
        both same (inl e) = inl (ap₂ (λ i is. i ∷ is) (sym same) e)
        both same (inr b) = inr (inr (same, b))
    go false more false is h rec = absurd (true≢false h)

all_behind : (k : ArrayVec ℕ) (keys : List (ArrayVec ℕ)) → All (IsLeBy path_cmp k) keys → (q : List ℕ) → Has (paths_in keys) q → (q ≡ k.items) ⊎ IsBefore k.items q
all_behind k [] all q has = absurd has
all_behind k (x ∷ keys) all q (inl e) =
    let here = not_behind k.items x.items (All-head (IsLeBy path_cmp k) x keys all) in
    subst (λ r. (r ≡ k.items) ⊎ IsBefore k.items r) (sym e) here
all_behind k (x ∷ keys) all q (inr later) = all_behind k keys (All-tail (IsLeBy path_cmp k) x keys all) q later

head_first : (k : ArrayVec ℕ) (keys : List (ArrayVec ℕ)) → slice_get keys 0 ≡ Some k → paths_in keys ≡ k.items ∷ rest_of (paths_in keys)
head_first k [] is = cc
head_first k (x ∷ keys) is = let same : x ≡ k = cc in ap (λ y. y.items ∷ paths_in keys) same

pub is_first : (k : ArrayVec ℕ) (keys : List (ArrayVec ℕ)) → slice_get keys 0 ≡ Some k → All (IsLeBy path_cmp k) keys → IsFirst k.items (paths_in keys)
is_first k keys is all = record { first = head_first k keys is; least = all_behind k keys all }

-- what comes before another for the library does so in the order of paths
less_before : (p q : List ℕ) → slice_cmp nat_cmp p q ≡ Less → IsBefore p q
less_before [] [] h = cc
less_before [] (m ∷ q) h = tt
less_before (n ∷ p) [] h = cc
less_before (n ∷ p) (m ∷ q) h = go (nat_lt n m) refl (n == m) refl h (λ below. less_before p q below)
  where
    go : (l : Bool) → nat_lt n m ≡ l → (e : Bool) → (n == m) ≡ e → ordering_then (cond l Less (cond e Equal Greater)) (slice_cmp nat_cmp p q) ≡ Less
        → (slice_cmp nat_cmp p q ≡ Less → IsBefore p q) → (n < m) ⊎ ((n ≡ m) × IsBefore p q)
    go true less e is h rec = let lt : n < m = grind (arith, nat_tests) in inl lt
    go false more true is h rec = let same : n ≡ m = grind (arith, nat_tests) in inr (same, rec h)
    go false more false is h rec = cc

all_after : (k : ArrayVec ℕ) (keys : List (ArrayVec ℕ)) → All (IsLtBy path_cmp k) keys → (q : List ℕ) → Has (paths_in keys) q → IsBefore k.items q
all_after k [] all q has = absurd has
all_after k (x ∷ keys) all q (inl e) = subst (IsBefore k.items) (sym e) (less_before k.items x.items (All-head (IsLtBy path_cmp k) x keys all))
all_after k (x ∷ keys) all q (inr later) = all_after k keys (All-tail (IsLtBy path_cmp k) x keys all) q later

-- the first is taken out
pub is_taken : (o : Option (ArrayVec ℕ)) (old new : List (ArrayVec ℕ)) → IfSome o (λ k. old ≡ k ∷ new) → IfSome o (λ k. All (IsLtBy path_cmp k) new) → IfSome o (λ k. IsTakenFrom k.items (paths_in old) (paths_in new))
is_taken None old new is all = tt
is_taken (Some k) old new is all = record { first = ap paths_in is; behind = all_after k new all }

pub as_many : (keys : List (ArrayVec ℕ)) → length (paths_in keys) ≡ length keys
as_many [] = refl
as_many (k ∷ keys) = ap suc (as_many keys)
