-- Which paths a set of the library has, and what it has once a path was put in or taken out.
use Rattle.std.proofs.Common.{◌≡◌, ◌≢◌, ℕ, ◌⊎◌, Bool, true, false, ◌||◌, cond, List, [], ◌∷◌, inl, inr, refl, sym, ap, ◌∙◌, subst, true≢false}
use Rattle.std.specs.List.{list_any}
use Rattle.std.specs.Ordering.{is_eq, nat_cmp, match_ordering, ordering_then}
use Rattle.std.specs.Cmp.{nat_cmp_is}
use Rattle.std.specs.Cmp.Lexicographic.{slice_cmp}
use Rattle.std.specs.declared.cmp.Ordering.{Ordering}
use Rattle.std.specs.declared.cmp.Ordering.TheVariants.{Less, Equal, Greater}
use Rattle.std.specs.BTreeMap.{is_at}
use Rattle.std.specs.BTreeSet.{insert_key}
use Rattle.std.specs.Set.{remove_key}
use Rattle.arrayvec.specs.ArrayVec.{ArrayVec}
use Rattle.path_set.specs.Paths.{Paths, paths_in, Has}
use Rattle.path_set.proofs.Firsts.{path_cmp}
use Rattle.path_set.proofs.Puts.{same_path}

-- a path compares as equal to itself
itself : (p : List ℕ) → slice_cmp nat_cmp p p ≡ Equal
itself [] = refl
itself (n ∷ p) = ap (λ o. ordering_then o (slice_cmp nat_cmp p p)) (sym (nat_cmp_is n n Equal refl)) ∙ itself p

equal_same : (p q : List ℕ) → p ≡ q → slice_cmp nat_cmp p q ≡ Equal
equal_same p q e = ap (slice_cmp nat_cmp p) (sym e) ∙ itself p

-- what is found is there
pub found_there : (keys : List (ArrayVec ℕ)) (k : ArrayVec ℕ) → list_any (is_at (path_cmp k)) keys ≡ true → Has (paths_in keys) k.items
found_there [] k h = absurd (true≢false (sym h))
found_there (x ∷ keys) k h = go (path_cmp k x) refl h (λ rest. found_there keys k rest)
  where
    go : (o : Ordering) → path_cmp k x ≡ o → (is_eq o || list_any (is_at (path_cmp k)) keys) ≡ true
        → (list_any (is_at (path_cmp k)) keys ≡ true → Has (paths_in keys) k.items) → Has (paths_in (x ∷ keys)) k.items
    go Less is h rec = inr (rec h)
    go Equal is h rec = inl (same_path k.items x.items is)
    go Greater is h rec = inr (rec h)

-- and what is there is found
pub there_found : (keys : List (ArrayVec ℕ)) (k : ArrayVec ℕ) → Has (paths_in keys) k.items → list_any (is_at (path_cmp k)) keys ≡ true
there_found [] k has = absurd has
there_found (x ∷ keys) k (inl e) = ap (λ o. is_eq o || list_any (is_at (path_cmp k)) keys) (equal_same k.items x.items e)
there_found (x ∷ keys) k (inr later) = go (path_cmp k x) (there_found keys k later)
  where
    go : (o : Ordering) → list_any (is_at (path_cmp k)) keys ≡ true → (is_eq o || list_any (is_at (path_cmp k)) keys) ≡ true
    go Less h = h
    go Equal h = refl
    go Greater h = h

-- a path that is put in is the only new one
put_alone : (keys : List (ArrayVec ℕ)) (k : ArrayVec ℕ) (p : List ℕ) → Has (paths_in (insert_key path_cmp keys k)) p → Has (paths_in keys) p ⊎ (p ≡ k.items)
put_alone [] k p (inl e) = inr e
put_alone [] k p (inr has) = absurd has
put_alone (x ∷ keys) k p has = go (path_cmp k x) has (λ later. put_alone keys k p later)
  where
    longer : Has (paths_in keys) p ⊎ (p ≡ k.items) → Has (paths_in (x ∷ keys)) p ⊎ (p ≡ k.items)
    longer (inl later) = inl (inr later)
    longer (inr e) = inr e

    go : (o : Ordering) → Has (paths_in (match_ordering o (k ∷ x ∷ keys) (x ∷ keys) (x ∷ insert_key path_cmp keys k))) p
        → (Has (paths_in (insert_key path_cmp keys k)) p → Has (paths_in keys) p ⊎ (p ≡ k.items)) → Has (paths_in (x ∷ keys)) p ⊎ (p ≡ k.items)
    go Less (inl e) rec = inr e
    go Less (inr before) rec = inl before
    go Equal before rec = inl before
    go Greater (inl e) rec = inl (inl e)
    go Greater (inr later) rec = longer (rec later)

pub only_put : (old new : List (ArrayVec ℕ)) (k : ArrayVec ℕ) (p : List ℕ) → new ≡ insert_key path_cmp old k → Has (paths_in new) p → Has (paths_in old) p ⊎ (p ≡ k.items)
only_put old new k p is has = put_alone old k p (subst (λ ks. Has (paths_in ks) p) is has)

-- a path that is taken out is the only one that goes
taken_alone : (keys : List (ArrayVec ℕ)) (k : ArrayVec ℕ) (p : List ℕ) → p ≢ k.items → Has (paths_in keys) p → Has (paths_in (remove_key (is_at (path_cmp k)) keys)) p
taken_alone [] k p other has = absurd has
taken_alone (x ∷ keys) k p other has = go (path_cmp k x) refl has (λ later. taken_alone keys k p other later)
  where
    go : (o : Ordering) → path_cmp k x ≡ o → Has (paths_in (x ∷ keys)) p → (Has (paths_in keys) p → Has (paths_in (remove_key (is_at (path_cmp k)) keys)) p)
        → Has (paths_in (cond (is_eq o) keys (x ∷ remove_key (is_at (path_cmp k)) keys))) p
    go Less is (inl e) rec = inl e
    go Less is (inr later) rec = inr (rec later)
    go Equal is (inl e) rec = absurd (other (e ∙ sym (same_path k.items x.items is)))
    go Equal is (inr later) rec = later
    go Greater is (inl e) rec = inl e
    go Greater is (inr later) rec = inr (rec later)

pub only_taken : (old new : List (ArrayVec ℕ)) (k : ArrayVec ℕ) (p : List ℕ) → new ≡ remove_key (is_at (path_cmp k)) old → p ≢ k.items → Has (paths_in old) p → Has (paths_in new) p
only_taken old new k p is other has = subst (λ ks. Has (paths_in ks) p) (sym is) (taken_alone old k p other has)

-- and none comes
none_new : (keys : List (ArrayVec ℕ)) (k : ArrayVec ℕ) (p : List ℕ) → Has (paths_in (remove_key (is_at (path_cmp k)) keys)) p → Has (paths_in keys) p
none_new [] k p has = has
none_new (x ∷ keys) k p has = go (is_at (path_cmp k) x) has (λ later. none_new keys k p later)
  where
    go : (b : Bool) → Has (paths_in (cond b keys (x ∷ remove_key (is_at (path_cmp k)) keys))) p → (Has (paths_in (remove_key (is_at (path_cmp k)) keys)) p → Has (paths_in keys) p)
        → Has (paths_in (x ∷ keys)) p
    go true later rec = inr later
    go false (inl e) rec = inl e
    go false (inr later) rec = inr (rec later)

pub was_there : (old new : List (ArrayVec ℕ)) (k : ArrayVec ℕ) (p : List ℕ) → new ≡ remove_key (is_at (path_cmp k)) old → Has (paths_in new) p → Has (paths_in old) p
was_there old new k p is has = none_new old k p (subst (λ ks. Has (paths_in ks) p) is has)

-- what is not found is not there
pub not_there : (keys : List (ArrayVec ℕ)) (k : ArrayVec ℕ) → list_any (is_at (path_cmp k)) keys ≡ false → Has (paths_in keys) k.items → ⊥
not_there keys k away has = true≢false (sym (there_found keys k has) ∙ away)
