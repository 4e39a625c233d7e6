-- The entries of a map of children, as children.
use Rattle.std.proofs.Common.{◌≡◌, ℕ, ◌<◌, ◌==◌, nat_lt, Bool, true, false, cond, List, [], ◌∷◌, Some, refl, sym, ap, ◌∙◌, arith, nat_cmp}
use Rattle.std.proofs.lemmas.Bool.Decides.{nat_tests}
use Rattle.std.proofs.lemmas.Map.Keys.{sorted_head, sorted_tail}
use Rattle.std.specs.Ordering.{match_ordering}
use Rattle.std.specs.declared.cmp.Ordering.TheVariants.{Less, Equal, Greater}
use Rattle.std.specs.List.{AllByRecursion}
use Rattle.std.specs.List.Sorted.{IsStrictlySortedBy}
use Rattle.std.specs.BTreeMap.{is_at, insert_entry}
use Rattle.std.specs.Map.{keys_of, lookup, set_value, remove_entry}
use Rattle.space_model.specs.Space.{Space, Children, child, find, has, over, enter, put_child, remove_child, children_from}
use Rattle.space_model.proofs.Children.{has-find}

at_is : (n k : ℕ) → is_at (nat_cmp n) k ≡ (n == k)
at_is n k = grind (arith, nat_tests)

children_from-cond : (b : Bool) (es fs : List (ℕ × Space)) → children_from (cond b es fs) ≡ cond b (children_from es) (children_from fs)
children_from-cond true es fs = refl
children_from-cond false es fs = refl

-- a look-up finds the child
pub find_entries : (n : ℕ) (es : List (ℕ × Space)) → lookup (is_at (nat_cmp n)) es ≡ find n (children_from es)
find_entries n [] = refl
find_entries n (e ∷ es) =
    ap (λ b. cond b (Some e.1) (lookup (is_at (nat_cmp n)) es)) (at_is n e.0)
    ∙ ap (cond (n == e.0) (Some e.1)) (find_entries n es)

-- what is written over the value is done to the child
pub over_entries : (n : ℕ) (f : Space → Space) (c : Space) (es : List (ℕ × Space)) → find n (children_from es) ≡ Some c → children_from (set_value (is_at (nat_cmp n)) es (f c)) ≡ over n f (children_from es)
over_entries n f c [] is = refl
over_entries n f c (e ∷ es) is = rw (at_is n e.0, children_from-cond) (by_number (n == e.0) is (over_entries n f c es))
  where
    by_number : (b : Bool) → cond b (Some e.1) (find n (children_from es)) ≡ Some c → (find n (children_from es) ≡ Some c → children_from (set_value (is_at (nat_cmp n)) es (f c)) ≡ over n f (children_from es))
        → cond b (child e.0 (f c) (children_from es)) (child e.0 e.1 (children_from (set_value (is_at (nat_cmp n)) es (f c)))) ≡ cond b (child e.0 (f e.1) (children_from es)) (child e.0 e.1 (over n f (children_from es)))
    by_number true h k = let same : e.1 ≡ c = cc in ap (λ d. child e.0 (f d) (children_from es)) (sym same)
    by_number false h k = ap (child e.0 e.1) (k h)

pub put_there : (n : ℕ) (s c : Space) (cs : Children) → find n cs ≡ Some c → put_child n s cs ≡ over n (λ d. s) cs
put_there n s c cs is = ap (λ b. cond b (over n (λ d. s) cs) (enter n s cs)) (has-find n c cs is)

-- what is written over the value is put in the place of the child
pub set_entries : (n : ℕ) (s c : Space) (es : List (ℕ × Space)) → find n (children_from es) ≡ Some c → children_from (set_value (is_at (nat_cmp n)) es s) ≡ put_child n s (children_from es)
set_entries n s c es is = over_entries n (λ d. s) c es is ∙ sym (put_there n s c (children_from es) is)

-- a number below all keys is that of no child
none_below : (n m : ℕ) (es : List (ℕ × Space)) → n < m → AllByRecursion (λ k. nat_cmp m k ≡ Less) (keys_of es) → has n (children_from es) ≡ false
none_below n m [] h all = refl
none_below n m (e ∷ es) h all =
    let above : m < e.0 = let first : nat_cmp m e.0 ≡ Less = all.0 in grind (arith, nat_tests) in
    let other : (n == e.0) ≡ false = grind (arith, nat_tests) in
    ap (λ b. cond b true (has n (children_from es))) other ∙ none_below n m es h all.1

put_step : (lt eq there : Bool) (n : ℕ) (s : Space) (e : ℕ × Space) (es fs : List (ℕ × Space)) (o i : Children) → (lt ≡ true → eq ≡ false) → (lt ≡ true → there ≡ false) → children_from fs ≡ cond there o i
    → children_from (match_ordering (cond lt Less (cond eq Equal Greater)) ((n, s) ∷ e ∷ es) ((e.0, s) ∷ es) (e ∷ fs))
    ≡ cond (cond eq true there) (cond eq (child e.0 s (children_from es)) (child e.0 e.1 o)) (cond lt (child n s (child e.0 e.1 (children_from es))) (child e.0 e.1 i))
put_step true true there n s e es fs o i apart below ih = let no : true ≡ false = apart refl in cc
put_step true false true n s e es fs o i apart below ih = let no : true ≡ false = below refl in cc
put_step true false false n s e es fs o i apart below ih = refl
put_step false true there n s e es fs o i apart below ih = refl
put_step false false true n s e es fs o i apart below ih = ap (child e.0 e.1) ih
put_step false false false n s e es fs o i apart below ih = ap (child e.0 e.1) ih

-- an insertion puts the child
pub put_entries : (n : ℕ) (s : Space) (es : List (ℕ × Space)) → IsStrictlySortedBy nat_cmp (keys_of es) → children_from (insert_entry nat_cmp es n s) ≡ put_child n s (children_from es)
put_entries n s [] sorted = refl
put_entries n s (e ∷ es) sorted =
    put_step (nat_lt n e.0) (n == e.0) (has n (children_from es)) n s e es (insert_entry nat_cmp es n s) (over n (λ d. s) (children_from es)) (enter n s (children_from es))
    (λ h. grind (arith, nat_tests))
    (λ h. let below : n < e.0 = grind (arith, nat_tests) in none_below n e.0 es below (sorted_head nat_cmp e.0 (keys_of es) sorted))
    (put_entries n s es (sorted_tail nat_cmp e.0 (keys_of es) sorted))

-- a removal takes the child away
pub remove_entries : (n : ℕ) (es : List (ℕ × Space)) → children_from (remove_entry (is_at (nat_cmp n)) es) ≡ remove_child n (children_from es)
remove_entries n [] = refl
remove_entries n (e ∷ es) =
    rw (at_is n e.0, children_from-cond) (ap (λ rest. cond (n == e.0) (children_from es) (child e.0 e.1 rest)) (remove_entries n es))
