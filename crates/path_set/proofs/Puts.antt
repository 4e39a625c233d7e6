-- Paths put in, in the order in which a set of the library keeps them.
use Rattle.std.proofs.Common.{◌≡◌, ℕ, ◌⊎◌, List, [], ◌∷◌, inl, inr, refl}
use Rattle.std.specs.Ordering.{nat_cmp, match_ordering}
use Rattle.std.specs.Cmp.Lexicographic.{slice_cmp}
use Rattle.std.specs.FinMap.{nat_cmp-IsAntisymmetric, slice_cmp-IsAntisymmetric}
use Rattle.std.specs.declared.cmp.Ordering.{Ordering}
use Rattle.std.specs.declared.cmp.Ordering.TheVariants.{Less, Equal, Greater}
use Rattle.std.specs.BTreeSet.{insert_key}
use Rattle.arrayvec.specs.ArrayVec.{ArrayVec}
use Rattle.path_set.specs.Paths.{Paths, paths_in, Has}
use Rattle.path_set.proofs.Firsts.{path_cmp}

-- paths that compare as equal are one path
pub same_path : (p q : List ℕ) → slice_cmp nat_cmp p q ≡ Equal → p ≡ q
same_path p q e = slice_cmp-IsAntisymmetric nat_cmp-IsAntisymmetric p q e

put_there : (keys : List (ArrayVec ℕ)) (k : ArrayVec ℕ) → Has (paths_in (insert_key path_cmp keys k)) k.items
put_there [] k = inl refl
put_there (x ∷ keys) k = go (path_cmp k x) refl (put_there keys k)
  where
    go : (o : Ordering) → path_cmp k x ≡ o → Has (paths_in (insert_key path_cmp keys k)) k.items
        → Has (paths_in (match_ordering o (k ∷ x ∷ keys) (x ∷ keys) (x ∷ insert_key path_cmp keys k))) k.items
    go Less is rec = inl refl
    go Equal is rec = inl (same_path k.items x.items is)
    go Greater is rec = inr rec

put_keeps : (keys : List (ArrayVec ℕ)) (k : ArrayVec ℕ) (p : List ℕ) → Has (paths_in keys) p → Has (paths_in (insert_key path_cmp keys k)) p
put_keeps [] k p has = absurd has
put_keeps (x ∷ keys) k p has = go (path_cmp k x) has (λ later. put_keeps keys k p later)
  where
    go : (o : Ordering) → Has (paths_in (x ∷ keys)) p → (Has (paths_in keys) p → Has (paths_in (insert_key path_cmp keys k)) p)
        → Has (paths_in (match_ordering o (k ∷ x ∷ keys) (x ∷ keys) (x ∷ insert_key path_cmp keys k))) p
    go Less has rec = inr has
    go Equal has rec = has
    go Greater (inl e) rec = inl e
    go Greater (inr later) rec = inr (rec later)

pub is_there : (old new : List (ArrayVec ℕ)) (k : ArrayVec ℕ) → new ≡ insert_key path_cmp old k → Has (paths_in new) k.items
is_there old new k is = let there = put_there old k in rw is there

pub stays_there : (old new : List (ArrayVec ℕ)) (k : ArrayVec ℕ) (p : List ℕ) → new ≡ insert_key path_cmp old k → Has (paths_in old) p → Has (paths_in new) p
stays_there old new k p is has = let there = put_keeps old k p has in rw is there
