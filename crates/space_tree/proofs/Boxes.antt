-- What is done to the entries of a map, in their boxes, is done to the children.
use Rattle.std.proofs.Common.{◌≡◌, ℕ, Bool, true, false, cond, List, [], ◌∷◌, map, Some, refl, sym, ap, ◌∙◌, subst, nat_cmp}
use Rattle.std.specs.Prelude.{Option, option_map}
use Rattle.std.specs.Ordering.{match_ordering}
use Rattle.std.specs.declared.cmp.Ordering.{Ordering}
use Rattle.std.specs.declared.cmp.Ordering.TheVariants.{Less, Equal, Greater}
use Rattle.std.specs.List.Sorted.{IsStrictlySortedBy}
use Rattle.std.specs.BTreeMap.{BTreeMap, IsOrdered, is_at, insert_entry}
use Rattle.std.specs.Map.{keys_of, lookup, set_value, remove_entry}
use Rattle.std.specs.Box.{with_value}
use Rattle.std.specs.declared.boxed.Box.{Box}
use Rattle.std.specs.declared.alloc.Global.{Global}
use Rattle.space_model.specs.Space.{Space, Children, find, over, put_child, remove_child, children_from}
use Rattle.space_model.proofs.Entries.{find_entries, over_entries, put_entries, remove_entries}
use Rattle.space_tree.specs.Kept.{unboxed, children_in, numbers_of}

abbrev Entries : Type 0
Entries = List (ℕ × Box Space Global)

abbrev pub value_in : Option (Box Space Global) → Option Space
value_in = option_map (λ b. b.value)

option-cond : (t : Bool) (a b : Option (Box Space Global)) → value_in (cond t a b) ≡ cond t (value_in a) (value_in b)
option-cond true a b = refl
option-cond false a b = refl

unboxed-cond : (t : Bool) (a b : Entries) → unboxed (cond t a b) ≡ cond t (unboxed a) (unboxed b)
unboxed-cond true a b = refl
unboxed-cond false a b = refl

unboxed-match : (o : Ordering) (a b c : Entries) → unboxed (match_ordering o a b c) ≡ match_ordering o (unboxed a) (unboxed b) (unboxed c)
unboxed-match Less a b c = refl
unboxed-match Equal a b c = refl
unboxed-match Greater a b c = refl

pub keys-unboxed : (es : Entries) → keys_of (unboxed es) ≡ keys_of es
keys-unboxed [] = refl
keys-unboxed (e ∷ es) = ap (λ ks. e.0 ∷ ks) (keys-unboxed es)

pub lookup-unboxed : (test : ℕ → Bool) (es : Entries) → lookup test (unboxed es) ≡ value_in (lookup test es)
lookup-unboxed test [] = refl
lookup-unboxed test (e ∷ es) = ap (cond (test e.0) (Some e.1.value)) (lookup-unboxed test es) ∙ sym (option-cond (test e.0) (Some e.1) (lookup test es))

pub set-unboxed : (test : ℕ → Bool) (es : Entries) (b : Box Space Global) → unboxed (set_value test es b) ≡ set_value test (unboxed es) b.value
set-unboxed test [] b = refl
set-unboxed test (e ∷ es) b =
    unboxed-cond (test e.0) ((e.0, b) ∷ es) (e ∷ set_value test es b)
    ∙ ap (λ rest. cond (test e.0) ((e.0, b.value) ∷ unboxed es) ((e.0, e.1.value) ∷ rest)) (set-unboxed test es b)

pub insert-unboxed : (n : ℕ) (es : Entries) (b : Box Space Global) → unboxed (insert_entry nat_cmp es n b) ≡ insert_entry nat_cmp (unboxed es) n b.value
insert-unboxed n [] b = refl
insert-unboxed n (e ∷ es) b =
    unboxed-match (nat_cmp n e.0) ((n, b) ∷ e ∷ es) ((e.0, b) ∷ es) (e ∷ insert_entry nat_cmp es n b)
    ∙ ap (λ rest. match_ordering (nat_cmp n e.0) ((n, b.value) ∷ (e.0, e.1.value) ∷ unboxed es) ((e.0, b.value) ∷ unboxed es) ((e.0, e.1.value) ∷ rest)) (insert-unboxed n es b)

remove-unboxed : (test : ℕ → Bool) (es : Entries) → unboxed (remove_entry test es) ≡ remove_entry test (unboxed es)
remove-unboxed test [] = refl
remove-unboxed test (e ∷ es) =
    unboxed-cond (test e.0) es (e ∷ remove_entry test es) ∙ ap (λ rest. cond (test e.0) (unboxed es) ((e.0, e.1.value) ∷ rest)) (remove-unboxed test es)

-- what a look-up finds is the child
pub found : (n : ℕ) (o : Option (Box Space Global)) (cs : Children) (es : Entries) → children_in es ≡ cs → o ≡ lookup (is_at (nat_cmp n)) es → value_in o ≡ find n cs
found n o cs es is at = ap value_in at ∙ sym (lookup-unboxed (is_at (nat_cmp n)) es) ∙ find_entries n (unboxed es) ∙ ap (find n) is

-- what is left in the box is the child
pub lent : (n : ℕ) (b : Box Space Global) (w : Space) (cs : Children) (es fs : Entries) → children_in es ≡ cs → Some b ≡ lookup (is_at (nat_cmp n)) es → fs ≡ set_value (is_at (nat_cmp n)) es (with_value b w)
    → children_in fs ≡ over n (λ _. w) cs
lent n b w cs es fs is at fe =
    let here : find n (children_in es) ≡ Some b.value = sym (found n (Some b) (children_in es) es refl at) in
    ap children_in fe ∙ ap children_from (set-unboxed (is_at (nat_cmp n)) es (with_value b w)) ∙ over_entries n (λ _. w) b.value (unboxed es) here ∙ ap (over n (λ _. w)) is

-- what an insertion makes of the children
pub put : (n : ℕ) (b : Box Space Global) (s : Space) (cs : Children) (m : BTreeMap ℕ (Box Space Global)) (fs : Entries) → children_in m.entries ≡ cs → IsOrdered nat_cmp m → b.value ≡ s → fs ≡ insert_entry nat_cmp m.entries n b
    → children_in fs ≡ put_child n s cs
put n b s cs m fs is ordered value fe =
    let sorted : IsStrictlySortedBy nat_cmp (keys_of (unboxed m.entries)) = subst (IsStrictlySortedBy nat_cmp) (sym (keys-unboxed m.entries)) ordered in
    ap children_in fe ∙ ap children_from (insert-unboxed n m.entries b) ∙ put_entries n b.value (unboxed m.entries) sorted ∙ ap (λ x. put_child n x (children_in m.entries)) value ∙ ap (put_child n s) is

-- and a removal
pub removed : (n : ℕ) (cs : Children) (es fs : Entries) → children_in es ≡ cs → fs ≡ remove_entry (is_at (nat_cmp n)) es → children_in fs ≡ remove_child n cs
removed n cs es fs is fe = ap children_in fe ∙ ap children_from (remove-unboxed (is_at (nat_cmp n)) es) ∙ remove_entries n (unboxed es) ∙ ap (remove_child n) is

-- the numbers of children, as a map tells them
pub numbers_in : (es : Entries) (ns : List ℕ) (cs : Children) → children_in es ≡ cs → ns ≡ map (λ e. e.0) es → ns ≡ numbers_of cs
numbers_in es ns cs is told = told ∙ sym (told_by es) ∙ ap numbers_of is
  where
    told_by : (fs : Entries) → numbers_of (children_in fs) ≡ map (λ e. e.0) fs
    told_by [] = refl
    told_by (e ∷ fs) = ap (λ xs. e.0 ∷ xs) (told_by fs)
