-- A call reads and changes its caller's top and the children that it awaits, and nothing else. That it edits only what it awaits is the one
-- fact that is told call by call, `action_within`; all others are of any meeting.
use Rattle.std.proofs.Common.{◌≡◌, ℕ, zero, suc, ◌+◌, ◌==◌, ◌≢◌, Bool, true, false, ◌||◌, ◌&&◌, List, [], ◌∷◌, ◌++◌, Option, Some, None, refl, sym, ◌∙◌, ap, ap₂, arith, inl, inr, ◌⊎◌, true≢false}
use Rattle.std.proofs.lemmas.Bool.Decides.{nat_tests}
use Rattle.std.proofs.lemmas.Bool.{cases_eq, and_parts}
use Rattle.std.specs.Prelude.{option_map, if◌then◌else◌}
use Rattle.memory_model.specs.Memory.{Memory}
use Rattle.call_model.specs.declared.Call.{Call}
use Rattle.call_model.specs.declared.Call.TheVariants.{GetTree, Qstart, Qcommit}
use Rattle.space_model.specs.declared.Reach.{Reach}
use Rattle.space_model.specs.declared.Reach.TheVariants.{Itself, Whole}
use Rattle.space_model.specs.declared.Await.{Await}
use Rattle.space_model.specs.declared.Refusal.{Refusal}
use Rattle.space_model.specs.Space.{Space, space, Children, Top, children_of, find, over, put_child}
use Rattle.space_model.specs.Path.{under}
use Rattle.space_model.specs.Call.{Edit, change, place, take_away, Meeting, see, seen_of, below, copy_to, edit, edit_all}
use Rattle.space_model.specs.Refusals.{first_refusal}
use Rattle.space_model.specs.Quanta.{Thread, waits, threads, after_start, starts, renewal, renewals}
use Rattle.space_model.specs.Meeting.{awaits, itself, whole, in_row, refusals, action, unless_refused, meeting, meet}
use Rattle.det_laws.specs.Near.{is_awaited}
use Rattle.space_model.proofs.Children.{find-over_other, find-over_same, over-put_other, over-put_same, put-over_same, over-remove_other, find-put_other, find-put_same, find-remove_other}

abbrev pub is_whole : Reach → Bool
is_whole Itself = false
is_whole Whole = true

-- and awaited whole
abbrev pub is_awaited_whole : ℕ → List Await → Bool
is_awaited_whole n [] = false
is_awaited_whole n (a ∷ others) = ((n == a.number) && is_whole a.reach) || is_awaited_whole n others

-- only the top of a child that is awaited is changed, and only one that is awaited whole is replaced or removed
abbrev pub is_within : List Await → Edit → Bool
is_within as' (change n t) = is_awaited n as'
is_within as' (place n s) = is_awaited_whole n as'
is_within as' (take_away n) = is_awaited_whole n as'

abbrev pub are_within : List Await → List Edit → Bool
are_within as' [] = true
are_within as' (e ∷ es) = is_within as' e && are_within as' es

copy_within : (n : ℕ) (o : Option Space) (as' : List Await) → is_awaited_whole n as' ≡ true → are_within as' (copy_to n o ∷ []) ≡ true
copy_within n None as' h = rw h refl
copy_within n (Some s) as' h = rw h refl

second_whole : (n m : ℕ) → is_awaited_whole m (whole n ∷ whole m ∷ []) ≡ true
second_whole n m = grind (arith, nat_tests)

-- threads whose numbers are awaited
abbrev AreAwaited : List Await → List Thread → Type 0
AreAwaited all [] = Unit {0}
AreAwaited all (c ∷ cs) = (is_awaited c.number all ≡ true) × AreAwaited all cs

first_of_row : (first : ℕ) (others : List Await) → is_awaited first (itself first ∷ others) ≡ true
first_of_row first others = grind (arith, nat_tests)

or_later : (b c : Bool) → c ≡ true → (b || c) ≡ true
or_later true c h = refl
or_later false c h = h

-- the threads of a row are awaited, with others or alone
threads_awaited : (all : List Await) (first count : ℕ) (cs : Children) → ((n : ℕ) → is_awaited n (in_row first count) ≡ true → is_awaited n all ≡ true)
    → AreAwaited all (threads first (seen_of (in_row first count) cs))
threads_awaited all first zero cs within = tt
threads_awaited all first (suc count) cs within =
    go (find first cs) refl (within first (first_of_row first (in_row (first + 1) count))) (threads_awaited all (first + 1) count cs (λ n h. within n (or_later (n == first) (is_awaited n (in_row (first + 1) count)) h)))
  where
    go : (o : Option Space) → find first cs ≡ o → is_awaited first all ≡ true → AreAwaited all (threads (first + 1) (seen_of (in_row (first + 1) count) cs))
        → AreAwaited all (threads first (seen_of (in_row first (suc count)) cs))
    go None is here rest = rw is rest
    go (Some (space t ds)) is here rest = rw is (here, rest)

-- an edit, where there is one, before others
first_within : (b : Bool) (e : Edit) (es : List Edit) (all : List Await) → is_within all e ≡ true → are_within all es ≡ true → are_within all ((if b then e ∷ [] else []) ++ es) ≡ true
first_within true e es all one others = rw (one, others) refl
first_within false e es all one others = others

starts_within : (all : List Await) (quantum : ℕ) (t : Top) (cs : List Thread) → AreAwaited all cs → are_within all (starts quantum t cs) ≡ true
starts_within all quantum t [] each = refl
starts_within all quantum t (c ∷ cs) each =
    first_within (waits c.top.status) (change c.number (after_start quantum t c.top)) (starts quantum t cs) all each.0 (starts_within all quantum t cs each.1)

renewal_within : (all : List Await) (c : Thread) (o : Option Memory) (es : List Edit) → is_awaited c.number all ≡ true → are_within all es ≡ true → are_within all (renewal c o ++ es) ≡ true
renewal_within all c None es one others = others
renewal_within all c (Some snapshot) es one others = rw (one, others) refl

renewals_within : (all : List Await) (cs : List Thread) → AreAwaited all cs → are_within all (renewals cs) ≡ true
renewals_within all [] each = refl
renewals_within all (c ∷ cs) each = renewal_within all c c.top.snapshot (renewals cs) each.0 (renewals_within all cs each.1)

-- what a call edits is awaited
action_within : (k : Call) (t : Top) (cs : Children) → are_within (awaits k) (action k t (seen_of (awaits k) cs)).edits ≡ true
action_within (GetTree child from to) t cs = copy_within to (find from (below (find child cs))) (awaits (GetTree child from to)) (second_whole child to)
action_within (Qstart first count quantum) t cs =
    starts_within (in_row first count) quantum t (threads first (seen_of (in_row first count) cs)) (threads_awaited (in_row first count) first count cs (λ n h. h))
action_within (Qcommit first count) t cs =
    renewals_within (in_row first count) (threads first (seen_of (in_row first count) cs)) (threads_awaited (in_row first count) first count cs (λ n h. h))
action_within k t cs = grind (arith, nat_tests)

unless_within : (o : Option Refusal) (t : Top) (m : Meeting) (as' : List Await) → are_within as' m.edits ≡ true
    → are_within as' (unless_refused o t m).edits ≡ true
unless_within None t m as' h = h
unless_within (Some r) t m as' h = refl

pub meeting_within : (levels : ℕ) (k : Call) (t : Top) (cs : Children) → are_within (awaits k) (meeting levels k t (seen_of (awaits k) cs)).edits ≡ true
meeting_within levels k t cs =
    let seen = seen_of (awaits k) cs in
    unless_within (first_refusal (refusals levels k t seen)) t (action k t seen) (awaits k) (action_within k t cs)

pub awaited_whole : (n : ℕ) (as' : List Await) → is_awaited n as' ≡ false → is_awaited_whole n as' ≡ false
awaited_whole n [] un = refl
awaited_whole n (a ∷ others) un = grind (arith, nat_tests, awaited_whole n others)

pub differs : (n m : ℕ) (as' : List Await) (f : ℕ → List Await → Bool) → f n as' ≡ false → f m as' ≡ true → n ≢ m
differs n m as' f a b e = true≢false (sym b ∙ ap (λ i. f i as') (sym e) ∙ a)

-- what is seen does not change by another child
seen_other : (as' : List Await) (n : ℕ) (f : Space → Space) (cs : Children) → is_awaited n as' ≡ false → seen_of as' (over n f cs) ≡ seen_of as' cs
seen_other [] n f cs un = refl
seen_other (a ∷ others) n f cs un =
    let ne : a.number ≢ n = grind (arith, nat_tests) in
    ap₂ (λ o r. see a.reach o ∷ r) (find-over_other a.number n f cs ne) (seen_other others n f cs (grind (arith, nat_tests)))

edit_other : (e : Edit) (as' : List Await) (n : ℕ) (f : Space → Space) (cs : Children) → is_awaited n as' ≡ false → is_within as' e ≡ true
    → edit e (over n f cs) ≡ over n f (edit e cs)
edit_other (change m t) as' n f cs un within =
    let ne = differs n m as' is_awaited un within in
    ap (λ o. put_child m (space t (below o)) (over n f cs)) (find-over_other m n f cs (λ e. ne (sym e))) ∙ sym (over-put_other n m f (space t (below (find m cs))) cs ne)
edit_other (place m s) as' n f cs un within = sym (over-put_other n m f s cs (differs n m as' is_awaited_whole (awaited_whole n as' un) within))
edit_other (take_away m) as' n f cs un within = sym (over-remove_other n m f cs (differs n m as' is_awaited_whole (awaited_whole n as' un) within))

edits_other : (es : List Edit) (as' : List Await) (n : ℕ) (f : Space → Space) (cs : Children) → is_awaited n as' ≡ false → are_within as' es ≡ true
    → edit_all es (over n f cs) ≡ over n f (edit_all es cs)
edits_other [] as' n f cs un all = refl
edits_other (e ∷ es) as' n f cs un all =
    ap (edit_all es) (edit_other e as' n f cs un (and_parts _ _ all).0) ∙ edits_other es as' n f (edit e cs) un (and_parts _ _ all).1

find-edit_other : (e : Edit) (as' : List Await) (n : ℕ) (cs : Children) → is_awaited n as' ≡ false → is_within as' e ≡ true → find n (edit e cs) ≡ find n cs
find-edit_other (change m t) as' n cs un within = find-put_other n m (space t (below (find m cs))) cs (differs n m as' is_awaited un within)
find-edit_other (place m s) as' n cs un within = find-put_other n m s cs (differs n m as' is_awaited_whole (awaited_whole n as' un) within)
find-edit_other (take_away m) as' n cs un within = find-remove_other n m cs (differs n m as' is_awaited_whole (awaited_whole n as' un) within)

find-edits_other : (es : List Edit) (as' : List Await) (n : ℕ) (cs : Children) → is_awaited n as' ≡ false → are_within as' es ≡ true
    → find n (edit_all es cs) ≡ find n cs
find-edits_other [] as' n cs un all = refl
find-edits_other (e ∷ es) as' n cs un all = find-edits_other es as' n (edit e cs) un (and_parts _ _ all).1 ∙ find-edit_other e as' n cs un (and_parts _ _ all).0

-- a call passes a change of a child that it does not await, and leaves that child
pub meet_other : (levels : ℕ) (k : Call) (t : Top) (n : ℕ) (f : Space → Space) (cs : Children) → is_awaited n (awaits k) ≡ false
    → meet levels k t (over n f cs) ≡ under (over n f) (meet levels k t cs)
meet_other levels k t n f cs un =
    let m = meeting levels k t (seen_of (awaits k) cs) in
    ap (λ ss. space (meeting levels k t ss).caller (edit_all (meeting levels k t ss).edits (over n f cs))) (seen_other (awaits k) n f cs un)
    ∙ ap (space m.caller) (edits_other m.edits (awaits k) n f cs un (meeting_within levels k t cs))

pub find-meet_other : (levels : ℕ) (k : Call) (t : Top) (n : ℕ) (cs : Children) → is_awaited n (awaits k) ≡ false
    → find n (children_of (meet levels k t cs)) ≡ find n cs
find-meet_other levels k t n cs un =
    let seen = seen_of (awaits k) cs in
    find-edits_other (meeting levels k t seen).edits (awaits k) n cs un (meeting_within levels k t cs)

see_below : (g : Children → Children) (o : Option Space) → see Itself (option_map (under g) o) ≡ see Itself o
see_below g None = refl
see_below g (Some (space t cs)) = refl

see_itself : (reach : Reach) (g : Children → Children) (o : Option Space) → is_whole reach ≡ false → see reach (option_map (under g) o) ≡ see reach o
see_itself Itself g o un = see_below g o
see_itself Whole g o un = absurd (true≢false un)

-- nor by what is below a child that is awaited itself
seen_below : (as' : List Await) (n : ℕ) (g : Children → Children) (cs : Children) → is_awaited_whole n as' ≡ false
    → seen_of as' (over n (under g) cs) ≡ seen_of as' cs
seen_below [] n g cs un = refl
seen_below (a ∷ others) n g cs un = ap₂ (λ o r. o ∷ r) (go (cases_eq a.number n)) (seen_below others n g cs (grind (arith, nat_tests)))
  where
    go : (a.number ≡ n) ⊎ (a.number ≡ n → ⊥) → see a.reach (find a.number (over n (under g) cs)) ≡ see a.reach (find a.number cs)
    go (inl e) = let w : is_whole a.reach ≡ false = grind (arith, nat_tests) in rw (e, find-over_same n (under g) cs) (see_itself a.reach g (find n cs) w)
    go (inr ne) = ap (see a.reach) (find-over_other a.number n (under g) cs ne)

children_under : (g : Children → Children) (c : Space) → children_of (under g c) ≡ g (children_of c)
children_under g (space t cs) = refl

-- of a child n that was c: what is below it has stayed
abbrev pub KeepsBelow : ℕ → Space → Children → Type 0
KeepsBelow n c cs = (d : Space) × (find n cs ≡ Some d) × (children_of d ≡ children_of c)

-- these edits pass a change below a child, and leave what is below it
abbrev PassBelow : List Edit → ℕ → (Children → Children) → Children → Space → Type 0
PassBelow es n g cs c = (edit_all es (over n (under g) cs) ≡ over n (under g) (edit_all es cs)) × KeepsBelow n c (edit_all es cs)

change_below : (n m : ℕ) (t : Top) (g : Children → Children) (cs : Children) (c : Space) → find n cs ≡ Some c → PassBelow (change m t ∷ []) n g cs c
change_below n m t g cs c is = go (cases_eq n m)
  where
    go : (n ≡ m) ⊎ (n ≡ m → ⊥) → PassBelow (change m t ∷ []) n g cs c
    go (inl e) =
        let at : find m cs ≡ Some c = ap (λ i. find i cs) (sym e) ∙ is in (
          rw (e, find-over_same m (under g) cs, at, children_under g c, put-over_same m (under g) (space t (g (children_of c))) cs) (sym (over-put_same m (under g) (space t (children_of c)) cs)),
          (space t (children_of c), rw (e, at) (find-put_same m (space t (children_of c)) cs), refl),
        )
    go (inr ne) =
        let ne' : m ≢ n = λ e. ne (sym e) in (
          ap (λ o. put_child m (space t (below o)) (over n (under g) cs)) (find-over_other m n (under g) cs ne') ∙ sym (over-put_other n m (under g) (space t (below (find m cs))) cs ne),
          (c, find-put_other n m (space t (below (find m cs))) cs ne ∙ is, refl),
        )

edit_below : (e : Edit) (as' : List Await) (n : ℕ) (g : Children → Children) (cs : Children) (c : Space) → is_awaited_whole n as' ≡ false
    → is_within as' e ≡ true → find n cs ≡ Some c → PassBelow (e ∷ []) n g cs c
edit_below (change m t) as' n g cs c un within is = change_below n m t g cs c is
edit_below (place m s) as' n g cs c un within is = let ne = differs n m as' is_awaited_whole un within in (sym (over-put_other n m (under g) s cs ne), (c, find-put_other n m s cs ne ∙ is, refl))
edit_below (take_away m) as' n g cs c un within is = let ne = differs n m as' is_awaited_whole un within in (sym (over-remove_other n m (under g) cs ne), (c, find-remove_other n m cs ne ∙ is, refl))

edits_below : (es : List Edit) (as' : List Await) (n : ℕ) (g : Children → Children) (cs : Children) (c : Space) → is_awaited_whole n as' ≡ false
    → are_within as' es ≡ true → find n cs ≡ Some c → PassBelow es n g cs c
edits_below [] as' n g cs c un all is = (refl, (c, is, refl))
edits_below (e ∷ es) as' n g cs c un all is =
    let a = edit_below e as' n g cs c un (and_parts _ _ all).0 is in
    let b = edits_below es as' n g (edit e cs) a.1.0 un (and_parts _ _ all).1 a.1.1 in
    (ap (edit_all es) a.0 ∙ b.0, (b.1.0, b.1.1, b.1.2 ∙ a.1.2))

-- a call passes a change below a child that it does not await whole, and leaves what is below that child
pub meet_below : (levels : ℕ) (k : Call) (t : Top) (n : ℕ) (g : Children → Children) (cs : Children) (c : Space)
    → is_awaited_whole n (awaits k) ≡ false → find n cs ≡ Some c
    → (meet levels k t (over n (under g) cs) ≡ under (over n (under g)) (meet levels k t cs)) × KeepsBelow n c (children_of (meet levels k t cs))
meet_below levels k t n g cs c un is =
    let seen = seen_of (awaits k) cs in
    let m = meeting levels k t seen in
    let b = edits_below m.edits (awaits k) n g cs c un (meeting_within levels k t cs) is in
    (ap (λ ss. space (meeting levels k t ss).caller (edit_all (meeting levels k t ss).edits (over n (under g) cs))) (seen_below (awaits k) n g cs un) ∙ ap (space m.caller) b.0, b.1)
