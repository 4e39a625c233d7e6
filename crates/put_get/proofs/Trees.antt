-- What Put and Get with Tree do to children, what they are of a caller that pays, and the tests of heights and snapshots.
use Rattle.std.proofs.Common.{◌≡◌, ℕ, ◌+◌, ◌-◌, ◌<◌, ◌≤◌, nat_lt, Bool, true, false, Option, Some, None, refl, subst, sym, ◌∙◌, ap, arith}
use Rattle.std.specs.Prelude.{Result, IfOk, is_none, is_some, not, min, if◌then◌else◌}
use Rattle.std.proofs.lemmas.Bool.Decides.{nat_tests}
use Rattle.call_model.specs.declared.Call.TheVariants.{PutTree, GetTree}
use Rattle.space_model.specs.declared.Refusal.{Refusal}
use Rattle.space_model.specs.Space.{Space, space, Children, Top, none, top_of, children_of, find, over, put_child, remove_child, height}
use Rattle.space_model.specs.Change.{after_payment, after_success}
use Rattle.space_model.specs.Call.{edit, copy_to, place, below}
use Rattle.space_model.specs.Beginning.{fresh_top}
use Rattle.space_model.specs.Meeting.{space_or_fresh, with_copy, test_refusal, height_refusal}
use Rattle.space_model.proofs.Entries.{put_there}
use Rattle.space_mem.specs.Held.{Held, memory_in}
use Rattle.space_model.specs.Caller.{with_action}
use Rattle.put_get.specs.Meetings.{snapshot_in}

-- a copy of a child of a child that is there
pub copied_below : {E : Type 0} (r : Result (Option Space) E) (n from : ℕ) (c : Space) (cs : Children) → Some c ≡ find n cs → IfOk r (λ copy. copy ≡ find from (children_of c))
    → IfOk r (λ copy. copy ≡ find from (below (find n cs)))
copied_below r n from c cs at copied = subst (λ o. IfOk r (λ copy. copy ≡ find from (below o))) at copied

-- a missing child has none
pub none_below : (n from : ℕ) (cs : Children) → None ≡ find n cs → None ≡ find from (below (find n cs))
none_below n from cs at = ap (λ o. find from (below o)) at

-- a child becomes a copy
pub copy_placed : (n : ℕ) (s : Space) (o : Option Space) (cs ds : Children) → o ≡ Some s → ds ≡ put_child n s cs → ds ≡ edit (copy_to n o) cs
copy_placed n s o cs ds is put = put ∙ ap (λ q. edit (copy_to n q) cs) (sym is)

-- or goes
pub child_removed : (n : ℕ) (o : Option Space) (cs ds : Children) → o ≡ None → ds ≡ remove_child n cs → ds ≡ edit (copy_to n o) cs
child_removed n o cs ds is removed = removed ∙ ap (λ q. edit (copy_to n q) cs) (sym is)

space_again : (s : Space) → s ≡ space (top_of s) (children_of s)
space_again (space t cs) = refl

-- a child that is there has a copy below it
pub below_there : (n to : ℕ) (o : Option Space) (u : Top) (c w : Space) (cs ds : Children) → Some c ≡ find n cs → ds ≡ over n (λ _. w) cs → w ≡ with_copy to o c
    → ds ≡ edit (place n (with_copy to o (space_or_fresh u (find n cs)))) cs
below_there n to o u c w cs ds at written is =
    written ∙ sym (put_there n w c cs (sym at)) ∙ ap (λ s. put_child n s cs) (is ∙ ap (with_copy to o) (space_again c)) ∙ ap (λ q. put_child n (with_copy to o (space_or_fresh u q)) cs) at

-- a missing one is made
pub below_missing : (n to : ℕ) (o : Option Space) (u : Top) (c : Space) (cs ds : Children) → None ≡ find n cs → ds ≡ put_child n c cs → c ≡ with_copy to o (space_or_fresh u None)
    → ds ≡ edit (place n (with_copy to o (space_or_fresh u (find n cs)))) cs
below_missing n to o u c cs ds at put is = put ∙ ap (λ s. put_child n s cs) is ∙ ap (λ q. put_child n (with_copy to o (space_or_fresh u q)) cs) at

-- a caller that has paid reads the same child
fresh-paid : (t : Top) (o : Option Space) → 0 < t.fuel → space_or_fresh t o ≡ space_or_fresh (after_payment t t) o
fresh-paid t None h = let same : t.fuel + t.used ≡ (t.fuel - 1) + (t.used + 1) = omega arith in ap (λ n. space (fresh_top n) none) same
fresh-paid t (Some c) h = refl

pub put_tree_met : (n from to : ℕ) (o : Option Space) (s : Space) (t u : Top) (cs ds es : Children) → space t cs ≡ s → 0 < (top_of s).fuel → o ≡ find from cs → es ≡ cs
    → ds ≡ edit (place n (with_copy to o (space_or_fresh t (find n es)))) es → u ≡ after_success (after_payment t t) → space u ds ≡ with_action (PutTree n from to) s
unfolding with_action
put_tree_met n from to o s t u cs ds es view some copied same edited went =
    let p = after_payment t t in
    let fuel : 0 < t.fuel = subst (λ r. 0 < (top_of r).fuel) (sym view) some in
    ap (λ v. space v ds) went ∙ ap (space (after_success p)) edited
    ∙ ap (λ xs. space (after_success p) (edit (place n (with_copy to o (space_or_fresh t (find n xs)))) xs)) same
    ∙ ap (λ q. space (after_success p) (edit (place n (with_copy to q (space_or_fresh t (find n cs)))) cs)) copied
    ∙ ap (λ c. space (after_success p) (edit (place n (with_copy to (find from cs) c)) cs)) (fresh-paid t (find n cs) fuel)
    ∙ ap (with_action (PutTree n from to)) view

pub get_tree_met : (n from to : ℕ) (o : Option Space) (s : Space) (t u : Top) (cs ds es : Children) → space t cs ≡ s → o ≡ find from (below (find n cs)) → es ≡ cs → ds ≡ edit (copy_to to o) es
    → u ≡ after_success (after_payment t t) → space u ds ≡ with_action (GetTree n from to) s
unfolding with_action
get_tree_met n from to o s t u cs ds es view copied same edited went =
    let p = after_payment t t in
    ap (λ v. space v ds) went ∙ ap (space (after_success p)) edited
    ∙ ap (λ xs. space (after_success p) (edit (copy_to to o) xs)) same
    ∙ ap (λ q. space (after_success p) (edit (copy_to to q) cs)) copied
    ∙ ap (with_action (GetTree n from to)) view

-- the test of a height, where the height is cut off at 255
pub height_stops : (levels n : ℕ) (c : Space) (r : Option Refusal) (cs : Children) → Some c ≡ find n cs → levels < min (min (height c) 255 + 2) 255 → r ≡ test_refusal 8
    → r ≡ height_refusal levels (find n cs)
height_stops levels n c r cs at above failed =
    let more : levels < 2 + height c = omega arith in
    let over : true ≡ nat_lt levels (2 + height c) = grind (arith, nat_tests) in
    failed ∙ ap (λ (b : Bool). if b then test_refusal 8 else None) over ∙ ap (height_refusal levels) at

pub height_passes : (levels n : ℕ) (c : Space) (cs : Children) → Some c ≡ find n cs → levels ≤ 8 → min (min (height c) 255 + 2) 255 ≤ levels → None ≡ height_refusal levels (find n cs)
height_passes levels n c cs at few within =
    let fits : 2 + height c ≤ levels = omega arith in
    let under : false ≡ nat_lt levels (2 + height c) = grind (arith, nat_tests) in
    ap (λ (b : Bool). if b then test_refusal 8 else None) under ∙ ap (height_refusal levels) at

pub missing_passes : (levels n : ℕ) (cs : Children) → None ≡ find n cs → None ≡ height_refusal levels (find n cs)
missing_passes levels n cs at = ap (height_refusal levels) at

-- a memory is there where its bytes are
pub no_memory_in : (o : Option Held) (b : Bool) → is_some o ≡ not b → b ≡ is_none (memory_in o)
no_memory_in None true h = refl
no_memory_in None false h = cc
no_memory_in (Some m) true h = cc
no_memory_in (Some m) false h = refl

-- whether a child lacks a snapshot
pub lacking : (n : ℕ) (c : Space) (b : Bool) (cs : Children) → Some c ≡ find n cs → b ≡ is_none (snapshot_in (Some c)) → b ≡ is_none (snapshot_in (find n cs))
lacking n c b cs at is = is ∙ ap (λ o. is_none (snapshot_in o)) at

pub missing_lacks : (n : ℕ) (cs : Children) → None ≡ find n cs → true ≡ is_none (snapshot_in (find n cs))
missing_lacks n cs at = ap (λ o. is_none (snapshot_in o)) at
