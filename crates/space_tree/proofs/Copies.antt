-- Copies of children, one after the other.
use Rattle.std.proofs.Common.{◌≡◌, ℕ, zero, suc, ◌+◌, ◌≤◌, ◌<◌, cond, subst, List, [], ◌∷◌, length, get_or, take, Some, None, false, Greater, sym, ap, ap₂, ◌∙◌, arith, nat_cmp}
use Rattle.std.specs.Ordering.{match_ordering}
use Rattle.std.specs.List.Sorted.{IsStrictlySortedBy}
use Rattle.std.specs.BTreeMap.{BTreeMap, IsOrdered, is_at, insert_entry}
use Rattle.std.specs.Map.{keys_of, lookup, set_value}
use Rattle.std.proofs.lemmas.Bool.Decides.{nat_tests}
use Rattle.std.proofs.lemmas.List.{take_all}
use Rattle.std.proofs.lemmas.Map.Entries.{length-keys_of}
use Rattle.std.proofs.lemmas.Map.Keys.{below_from_sorted, sorted_tail}
use Rattle.std.proofs.lemmas.Map.Steps.{set_value_same}
use Rattle.std.specs.Box.{with_value}
use Rattle.std.specs.declared.boxed.Box.{Box}
use Rattle.std.specs.declared.alloc.Global.{Global}
use Rattle.space_model.specs.Space.{Space, find}
use Rattle.space_model.proofs.Entries.{find_entries}
use Rattle.space_tree.specs.Kept.{unboxed, children_in}
use Rattle.space_tree.proofs.Boxes.{keys-unboxed, lookup-unboxed, set-unboxed, insert-unboxed, value_in}

-- the first number is below that of a later place
first_below : (e : ℕ × Space) (es : List (ℕ × Space)) (i n : ℕ) → IsStrictlySortedBy nat_cmp (keys_of (e ∷ es)) → i < length es → n ≡ get_or (keys_of es) i 0 → e.0 < n
first_below e es i n rising within at =
    let many : length (keys_of es) ≡ length es = length-keys_of es in
    let below : e.0 < get_or (keys_of es) i 0 = below_from_sorted (keys_of (e ∷ es)) 0 (suc i) 0 rising (omega arith) (omega (arith, many)) in
    omega (arith, below)

past_first : (n k : ℕ) → k < n → is_at (nat_cmp n) k ≡ false
past_first n k h = grind (arith, nat_tests)

after_first : (n k : ℕ) → k < n → nat_cmp n k ≡ Greater
after_first n k h = grind (arith, nat_tests)

lookup_past : (e : ℕ × Space) (es : List (ℕ × Space)) (n : ℕ) → e.0 < n → lookup (is_at (nat_cmp n)) (e ∷ es) ≡ lookup (is_at (nat_cmp n)) es
lookup_past e es n h = ap (λ b. cond b (Some e.1) (lookup (is_at (nat_cmp n)) es)) (past_first n e.0 h)

next_take : (i : ℕ) (e : ℕ × Space) (es : List (ℕ × Space)) → take (suc i + 1) (e ∷ es) ≡ e ∷ take (i + 1) es
next_take i e es = let next : suc i + 1 ≡ suc (i + 1) = omega arith in ap (λ k. take k (e ∷ es)) next

-- the copy of the child at a place comes after those before it
pub insert_next : (es : List (ℕ × Space)) (i n : ℕ) (s : Space) → IsStrictlySortedBy nat_cmp (keys_of es) → i < length es → n ≡ get_or (keys_of es) i 0 → Some s ≡ lookup (is_at (nat_cmp n)) es
    → insert_entry nat_cmp (take i es) n s ≡ take (i + 1) es
insert_next [] i n s rising within at found = absurd (omega arith)
insert_next (e ∷ es) zero n s rising within at found =
    let number : n ≡ e.0 = at in
    let same : s ≡ e.1 = grind (arith, nat_tests) in
    ap₂ (λ k x. (k, x) ∷ []) number same
insert_next (e ∷ es) (suc i) n s rising within at found =
    let above = first_below e es i n rising (omega arith) at in
    ap (λ o. match_ordering o ((n, s) ∷ e ∷ take i es) ((e.0, s) ∷ take i es) (e ∷ insert_entry nat_cmp (take i es) n s)) (after_first n e.0 above)
    ∙ ap (λ rest. e ∷ rest) (insert_next es i n s (sorted_tail nat_cmp e.0 (keys_of es) rising) (omega arith) at (found ∙ lookup_past e es n above))
    ∙ sym (next_take i e es)

-- there is a child of the number at a place
pub next_there : (es : List (ℕ × Space)) (i n : ℕ) → IsStrictlySortedBy nat_cmp (keys_of es) → i < length es → n ≡ get_or (keys_of es) i 0 → None ≡ lookup (is_at (nat_cmp n)) es → ⊥
next_there [] i n rising within at none = absurd (omega arith)
next_there (e ∷ es) zero n rising within at none = grind (arith, nat_tests)
next_there (e ∷ es) (suc i) n rising within at none =
    let above = first_below e es i n rising (omega arith) at in
    next_there es i n (sorted_tail nat_cmp e.0 (keys_of es) rising) (omega arith) at (none ∙ lookup_past e es n above)

-- the copies so far, with one more: the numbers, the children as they are now, the copies before and after
copied_next : (es fs cs ds : List (ℕ × Space)) (numbers : List ℕ) (i : ℕ) (s : Space) → IsStrictlySortedBy nat_cmp (keys_of es) → numbers ≡ keys_of es → i < length numbers → fs ≡ es
    → Some s ≡ lookup (is_at (nat_cmp (get_or numbers i 0))) fs → cs ≡ take i es → ds ≡ insert_entry nat_cmp cs (get_or numbers i 0) s → ds ≡ take (i + 1) es
copied_next es fs cs ds numbers i s rising all within same found before after =
    let many : length numbers ≡ length es = ap length all ∙ length-keys_of es in
    let there : Some s ≡ lookup (is_at (nat_cmp (get_or numbers i 0))) es = found ∙ ap (lookup (is_at (nat_cmp (get_or numbers i 0)))) same in
    after ∙ ap (λ xs. insert_entry nat_cmp xs (get_or numbers i 0) s) before ∙ insert_next es i (get_or numbers i 0) s rising (omega (arith, many)) (ap (λ ns. get_or ns i 0) all) there

none_next : (es fs : List (ℕ × Space)) (numbers : List ℕ) (i : ℕ) → IsStrictlySortedBy nat_cmp (keys_of es) → numbers ≡ keys_of es → i < length numbers → fs ≡ es
    → None ≡ lookup (is_at (nat_cmp (get_or numbers i 0))) fs → ⊥
none_next es fs numbers i rising all within same found =
    let many : length numbers ≡ length es = ap length all ∙ length-keys_of es in
    next_there es i (get_or numbers i 0) rising (omega (arith, many)) (ap (λ ns. get_or ns i 0) all) (found ∙ ap (lookup (is_at (nat_cmp (get_or numbers i 0)))) same)

-- children among which one is as it was
pub child_back : (n : ℕ) (b : Box Space Global) (w : Space) (es fs : List (ℕ × Box Space Global)) → Some b ≡ lookup (is_at (nat_cmp n)) es → w ≡ b.value → fs ≡ set_value (is_at (nat_cmp n)) es (with_value b w) → unboxed fs ≡ unboxed es
child_back n b w es fs found same is =
    let here : lookup (is_at (nat_cmp n)) (unboxed es) ≡ Some w = lookup-unboxed (is_at (nat_cmp n)) es ∙ sym (ap value_in found) ∙ sym (ap Some same) in
    ap unboxed is ∙ set-unboxed (is_at (nat_cmp n)) es (with_value b w) ∙ set_value_same (is_at (nat_cmp n)) (unboxed es) w here

-- a child that is copied: the map that is gone through, the numbers, the children as they are now, the copies before and after
pub one_more : (m : BTreeMap ℕ (Box Space Global)) (fs cs ds : List (ℕ × Box Space Global)) (numbers : List ℕ) (i : ℕ) (s : Space) (b : Box Space Global) → IsOrdered nat_cmp m → numbers ≡ keys_of m.entries
    → i < length numbers → unboxed fs ≡ unboxed m.entries → Some s ≡ find (get_or numbers i 0) (children_in fs) → b.value ≡ s → unboxed cs ≡ take i (unboxed m.entries)
    → ds ≡ insert_entry nat_cmp cs (get_or numbers i 0) b → unboxed ds ≡ take (i + 1) (unboxed m.entries)
one_more m fs cs ds numbers i s b ordered all within same found value before after =
    let n = get_or numbers i 0 in
    copied_next (unboxed m.entries) (unboxed fs) (unboxed cs) (unboxed ds) numbers i b.value (subst (IsStrictlySortedBy nat_cmp) (sym (keys-unboxed m.entries)) ordered) (all ∙ sym (keys-unboxed m.entries)) within same
    (ap Some value ∙ found ∙ sym (find_entries n (unboxed fs))) before (ap unboxed after ∙ insert-unboxed n cs b)

pub no_other : (m : BTreeMap ℕ (Box Space Global)) (fs : List (ℕ × Box Space Global)) (numbers : List ℕ) (i : ℕ) → IsOrdered nat_cmp m → numbers ≡ keys_of m.entries → i < length numbers
    → unboxed fs ≡ unboxed m.entries → None ≡ find (get_or numbers i 0) (children_in fs) → ⊥
no_other m fs numbers i ordered all within same none =
    none_next (unboxed m.entries) (unboxed fs) numbers i (subst (IsStrictlySortedBy nat_cmp) (sym (keys-unboxed m.entries)) ordered) (all ∙ sym (keys-unboxed m.entries)) within same
    (none ∙ sym (find_entries (get_or numbers i 0) (unboxed fs)))

-- and at the end all are copied
pub all_copied : (m : BTreeMap ℕ (Box Space Global)) (cs : List (ℕ × Box Space Global)) (numbers : List ℕ) (i : ℕ) → numbers ≡ keys_of m.entries → length numbers ≤ i → unboxed cs ≡ take i (unboxed m.entries) → unboxed cs ≡ unboxed m.entries
all_copied m cs numbers i all end before =
    let many : length (unboxed m.entries) ≡ length numbers = sym (length-keys_of (unboxed m.entries)) ∙ ap length (keys-unboxed m.entries ∙ sym all) in
    before ∙ take_all i (unboxed m.entries) (omega (arith, many, end))
