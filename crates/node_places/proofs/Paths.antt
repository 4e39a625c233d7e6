-- Paths as a map of the library orders them, and what is listed for one.
use Rattle.std.proofs.Common.{◌≡◌, ◌≢◌, ℕ, ◌==◌, nat_lt, Bool, true, false, ◌&&◌, cond, if◌then◌else◌, List, [], ◌∷◌, length, take, refl, sym, ap, ◌∙◌, arith, true≢false}
use Rattle.std.proofs.lemmas.Bool.Decides.{nat_tests}
use Rattle.std.specs.Prelude.{Some}
use Rattle.std.specs.Ordering.{is_eq, is_gt, nat_cmp, match_ordering, ordering_then}
use Rattle.std.specs.Cmp.{nat_cmp_is, both_tied, unsigned_ties}
use Rattle.std.specs.Cmp.Lexicographic.{slice_cmp, pointwise}
use Rattle.std.specs.declared.cmp.Ordering.{Ordering}
use Rattle.std.specs.declared.cmp.Ordering.TheVariants.{Less, Equal, Greater}
use Rattle.std.specs.FinMap.{nat_cmp-IsAntisymmetric, slice_cmp-IsAntisymmetric}
use Rattle.std.specs.BTreeMap.{is_at, insert_entry}
use Rattle.std.specs.Map.{lookup, remove_entry, set_value}
use Rattle.arrayvec.specs.ArrayVec.{ArrayVec}
use Rattle.node_places.specs.Places.{away_in, is_path, listed, IsAbove, put, rewritten, without}

abbrev pub Entries : Type 0
Entries = List (ArrayVec ℕ × ℕ)

abbrev pub path_cmp : ArrayVec ℕ → ArrayVec ℕ → Ordering
path_cmp p q = slice_cmp nat_cmp p.items q.items

-- paths that compare as equal are one path
pub same_path : (p q : List ℕ) → slice_cmp nat_cmp p q ≡ Equal → p ≡ q
same_path p q e = slice_cmp-IsAntisymmetric nat_cmp-IsAntisymmetric p q e

-- the test of paths is that of the order
pub path_test : (p q : List ℕ) → is_path p q ≡ is_eq (slice_cmp nat_cmp p q)
path_test [] [] = refl
path_test [] (m ∷ q) = refl
path_test (n ∷ p) [] = refl
path_test (n ∷ p) (m ∷ q) = both_tied (n == m) (is_path p q) (nat_cmp n m) (slice_cmp nat_cmp p q) (unsigned_ties n m) (path_test p q)

equal_of : (o : Ordering) → is_eq o ≡ true → o ≡ Equal
equal_of Less h = absurd (true≢false (sym h))
equal_of Equal h = refl
equal_of Greater h = absurd (true≢false (sym h))

pub path_is : (p q : List ℕ) → is_path p q ≡ true → p ≡ q
path_is p q h = same_path p q (equal_of (slice_cmp nat_cmp p q) (sym (path_test p q) ∙ h))

-- a path compares as equal to itself
itself : (p : List ℕ) → slice_cmp nat_cmp p p ≡ Equal
itself [] = refl
itself (n ∷ p) = ap (λ o. ordering_then o (slice_cmp nat_cmp p p)) (sym (nat_cmp_is n n Equal refl)) ∙ itself p

pub is_itself : (p : List ℕ) → is_path p p ≡ true
is_itself p = path_test p p ∙ ap is_eq (itself p)

is_other : (b : Bool) (p q : List ℕ) → is_path p q ≡ b → p ≢ q → is_path p q ≡ false
is_other true p q is other = absurd (other (path_is p q is))
is_other false p q is other = is

-- and not as equal to another
pub apart : (p q : List ℕ) → p ≢ q → is_path p q ≡ false
apart p q other = is_other (is_path p q) p q refl other

-- what a map has at a path is what is listed for it
pub listed_is : (es : Entries) (k : ArrayVec ℕ) → listed (away_in es) k.items ≡ lookup (is_at (path_cmp k)) es
listed_is [] k = refl
listed_is (x ∷ es) k = ap (λ b. if b then Some x.1 else listed (away_in es) k.items) (path_test k.items x.0.items) ∙ ap (λ o. cond (is_eq (path_cmp k x.0)) (Some x.1) o) (listed_is es k)

-- and what is put in, written and taken out of the map is so of what is listed
pub put_is : (es : Entries) (k : ArrayVec ℕ) (node : ℕ) → away_in (insert_entry path_cmp es k node) ≡ put (away_in es) k.items node
put_is [] k node = refl
put_is (x ∷ es) k node = go (path_cmp k x.0) (put_is es k node)
  where
    go : (o : Ordering) → away_in (insert_entry path_cmp es k node) ≡ put (away_in es) k.items node
        → away_in (match_ordering o ((k, node) ∷ x ∷ es) ((x.0, node) ∷ es) (x ∷ insert_entry path_cmp es k node))
        ≡ match_ordering o ((k.items, node) ∷ (x.0.items, x.1) ∷ away_in es) ((x.0.items, node) ∷ away_in es) ((x.0.items, x.1) ∷ put (away_in es) k.items node)
    go Less rec = refl
    go Equal rec = refl
    go Greater rec = ap (λ xs. (x.0.items, x.1) ∷ xs) rec

pub rewritten_is : (es : Entries) (k : ArrayVec ℕ) (node : ℕ) → away_in (set_value (is_at (path_cmp k)) es node) ≡ rewritten (away_in es) k.items node
rewritten_is [] k node = refl
rewritten_is (x ∷ es) k node =
    go (is_eq (path_cmp k x.0)) (rewritten_is es k node) ∙ sym (ap (λ b. if b then (x.0.items, node) ∷ away_in es else (x.0.items, x.1) ∷ rewritten (away_in es) k.items node) (path_test k.items x.0.items))
  where
    go : (b : Bool) → away_in (set_value (is_at (path_cmp k)) es node) ≡ rewritten (away_in es) k.items node
        → away_in (cond b ((x.0, node) ∷ es) (x ∷ set_value (is_at (path_cmp k)) es node)) ≡ (if b then (x.0.items, node) ∷ away_in es else (x.0.items, x.1) ∷ rewritten (away_in es) k.items node)
    go true rec = refl
    go false rec = ap (λ xs. (x.0.items, x.1) ∷ xs) rec

pub without_is : (es : Entries) (k : ArrayVec ℕ) → away_in (remove_entry (is_at (path_cmp k)) es) ≡ without (away_in es) k.items
without_is [] k = refl
without_is (x ∷ es) k =
    go (is_eq (path_cmp k x.0)) (without_is es k) ∙ sym (ap (λ b. if b then away_in es else (x.0.items, x.1) ∷ without (away_in es) k.items) (path_test k.items x.0.items))
  where
    go : (b : Bool) → away_in (remove_entry (is_at (path_cmp k)) es) ≡ without (away_in es) k.items
        → away_in (cond b es (x ∷ remove_entry (is_at (path_cmp k)) es)) ≡ (if b then away_in es else (x.0.items, x.1) ∷ without (away_in es) k.items)
    go true rec = refl
    go false rec = ap (λ xs. (x.0.items, x.1) ∷ xs) rec

-- a path that begins with another has it above
pub begins_above : (p q : List ℕ) → pointwise (λ n m. n == m) p (take (length p) q) ≡ true → IsAbove p q
begins_above [] q h = tt
begins_above (n ∷ p) [] h = absurd (true≢false (sym h))
begins_above (n ∷ p) (m ∷ q) h = go (n == m) refl h (λ rest. begins_above p q rest)
  where
    go : (b : Bool) → (n == m) ≡ b → (b && pointwise (λ i j. i == j) p (take (length p) q)) ≡ true → (pointwise (λ i j. i == j) p (take (length p) q) ≡ true → IsAbove p q) → (n ≡ m) × IsAbove p q
    go true is h rec = let same : n ≡ m = grind (arith, nat_tests) in (same, rec h)
    go false is h rec = absurd (true≢false (sym h))

-- and one that has it above begins with it
pub above_begins : (p q : List ℕ) → IsAbove p q → pointwise (λ n m. n == m) p (take (length p) q) ≡ true
above_begins [] q h = refl
above_begins (n ∷ p) [] h = absurd h
above_begins (n ∷ p) (m ∷ q) h = go (n == m) refl (above_begins p q h.1)
  where
    go : (b : Bool) → (n == m) ≡ b → pointwise (λ i j. i == j) p (take (length p) q) ≡ true → (b && pointwise (λ i j. i == j) p (take (length p) q)) ≡ true
    go true is rec = rec
    go false is rec = let same : n ≡ m = h.0 in absurd (grind (arith, nat_tests))

-- a path that stands above another does not come behind it
pub above_before : (p q : List ℕ) → IsAbove p q → is_gt (slice_cmp nat_cmp p q) ≡ false
above_before [] [] h = refl
above_before [] (m ∷ q) h = refl
above_before (n ∷ p) [] h = absurd h
above_before (n ∷ p) (m ∷ q) h = ap (λ o. is_gt (ordering_then o (slice_cmp nat_cmp p q))) (ap (nat_cmp n) (sym h.0) ∙ sym (nat_cmp_is n n Equal refl)) ∙ above_before p q h.1

-- between two numbers that are equal there is no other
between : (n j m : ℕ) (o u : Ordering) → n ≡ m → is_gt (ordering_then (nat_cmp n j) o) ≡ false → is_gt (ordering_then (nat_cmp j m) u) ≡ false → (n ≡ j) × (is_gt o ≡ false) × (is_gt u ≡ false)
between n j m o u same h k = go (nat_lt n j) refl (n == j) refl (nat_lt j m) refl (j == m) refl h k
  where
    go : (a : Bool) → nat_lt n j ≡ a → (b : Bool) → (n == j) ≡ b → (c : Bool) → nat_lt j m ≡ c → (d : Bool) → (j == m) ≡ d
        → is_gt (ordering_then (cond a Less (cond b Equal Greater)) o) ≡ false → is_gt (ordering_then (cond c Less (cond d Equal Greater)) u) ≡ false → (n ≡ j) × (is_gt o ≡ false) × (is_gt u ≡ false)
    go true ia b ib true ic d id h k = absurd (grind (arith, nat_tests))
    go true ia b ib false ic true id h k = absurd (grind (arith, nat_tests))
    go true ia b ib false ic false id h k = absurd (true≢false k)
    go false ia true ib true ic d id h k = absurd (grind (arith, nat_tests))
    go false ia true ib false ic true id h k = let e : n ≡ j = grind (arith, nat_tests) in (e, h, k)
    go false ia true ib false ic false id h k = absurd (true≢false k)
    go false ia false ib c ic d id h k = absurd (true≢false h)

-- a path between another and one below it stands below it too
pub between_below : (p k q : List ℕ) → is_gt (slice_cmp nat_cmp p k) ≡ false → is_gt (slice_cmp nat_cmp k q) ≡ false → IsAbove p q → IsAbove p k
between_below [] k q h i above = tt
between_below (n ∷ p) [] q h i above = absurd (true≢false h)
between_below (n ∷ p) (j ∷ k) [] h i above = absurd above
between_below (n ∷ p) (j ∷ k) (m ∷ q) h i above =
    let parts = between n j m (slice_cmp nat_cmp p k) (slice_cmp nat_cmp k q) above.0 h i in
    (parts.0, between_below p k q parts.1 parts.2 above.1)
