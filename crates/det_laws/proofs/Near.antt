-- What an event at a path lets happen: nothing but on the way to it, and in the children that its call awaits.
use Rattle.std.proofs.Common.{◌≡◌, ℕ, zero, suc, pred, ◌-◌, ◌+◌, ◌==◌, ◌≢◌, Bool, true, false, cond, ◌||◌, ◌&&◌, List, [], ◌∷◌, ◌++◌, length, Option, Some, None, refl, sym, ◌∙◌, ap, ap₂, arith, inl, inr, ◌⊎◌, subst}
use Rattle.std.proofs.lemmas.Bool.Decides.{nat_tests}
use Rattle.std.proofs.lemmas.Bool.{cases_eq, and_parts}
use Rattle.std.specs.Prelude.{option_map, option_and_then, if◌then◌else◌}
use Rattle.memory_model.specs.Memory.{Memory}
use Rattle.call_model.specs.declared.Call.{Call}
use Rattle.call_model.specs.declared.Call.TheVariants.{Put, PutTree, GetTree, Fork, Wait, Tfork, Qstart, Qcommit}
use Rattle.space_model.specs.declared.Await.{Await}
use Rattle.space_model.specs.declared.Reach.TheVariants.{Whole}
use Rattle.space_model.specs.declared.Refusal.{Refusal}
use Rattle.space_model.specs.Stop.{is_stopped}
use Rattle.space_model.specs.Space.{Top, Space, space, Children, none, child, top_of, children_of, find, over, put_child, remove_child, is_settled, are_settled}
use Rattle.space_model.specs.Path.{at, with_top}
use Rattle.space_model.specs.Call.{Edit, change, place, take_away, Meeting, seen_of, below, copy_to, edit, edit_all}
use Rattle.space_model.specs.Refusals.{first_refusal}
use Rattle.space_model.specs.Event.{NextEvent, rests, moves, meets, next}
use Rattle.space_model.specs.Quanta.{Thread, waits, threads, after_start, starts, renewal, renewals}
use Rattle.space_model.specs.Meeting.{awaits, itself, in_row, or_fresh, with_copy, refusals, action, unless_refused, meeting, meet}
use Rattle.space_model.specs.Sound.{IsSoundAt, AreSound}
use Rattle.space_model.proofs.Children.{find-over_other, find-over_same, find-put_same, find-put_other, find-remove_other}
use Rattle.space_model.proofs.Settled.{unite, settled_put, settled_remove}
use Rattle.space_model.proofs.Sound.{below_least, found_sound}
use Rattle.run_model.specs.Schedule.{are_ready, is_ready, may_happen, event, on_child, is_enabled, step, is_local, is_local_at, ready_call, call_at}
use Rattle.det_laws.specs.Tops.{top_at}
use Rattle.det_laws.specs.Near.{is_awaited, IsOnWay, IsNear}
use Rattle.det_laws.proofs.Frames.{is_awaited_whole, is_within, are_within, differs, meeting_within, find-meet_other}
use Rattle.det_laws.proofs.Commutes.{settled_stopped, settled_below, find_settled, child_there, stopped_waits, settled_rests, awaited_settled, awaited_stopped}
use Rattle.det_laws.proofs.Local.{one_level}

-- a top put at a path leaves the spaces that are not on the way to it
pub others_stay : (p q : List ℕ) (t : Top) (s : Space) → (IsOnWay p q → ⊥) → at p (with_top q t s) ≡ at p s
others_stay [] q t s away = absurd (away tt)
others_stay (n ∷ p) [] t (space u cs) away = refl
others_stay (n ∷ p) (m ∷ q) t (space u cs) away = go (λ c apart. others_stay p q t c apart) (cases_eq n m)
  where
    inside : ((c : Space) → (IsOnWay p q → ⊥) → at p (with_top q t c) ≡ at p c) → (IsOnWay p q → ⊥) → (o : Option Space)
        → option_and_then (at p) (option_map (with_top q t) o) ≡ option_and_then (at p) o
    inside each apart None = refl
    inside each apart (Some c) = each c apart

    go : ((c : Space) → (IsOnWay p q → ⊥) → at p (with_top q t c) ≡ at p c) → (n ≡ m) ⊎ (n ≡ m → ⊥) → at (n ∷ p) (space u (over m (with_top q t) cs)) ≡ at (n ∷ p) (space u cs)
    go each (inl e) =
        let apart : IsOnWay p q → ⊥ = λ w. away (e, w) in
        let here = ap (λ i. find i (over m (with_top q t) cs)) e ∙ find-over_same m (with_top q t) cs ∙ ap (λ i. option_map (with_top q t) (find i cs)) (sym e) in
        ap (option_and_then (at p)) here ∙ inside each apart (find n cs)
    go each (inr apart) = ap (option_and_then (at p)) (find-over_other n m (with_top q t) cs apart)

-- what may happen at a path is told by the space there
abbrev pub local_of : ℕ → Space → Bool
local_of levels c = is_local (next levels (top_of c))

abbrev pub call_of : ℕ → Space → Option Call
call_of levels c = ready_call (next levels (top_of c)) (children_of c)

pub local_there : (p : List ℕ) (levels : ℕ) (s : Space) → is_local_at p levels s ≡ on_child (local_of (levels - length p)) (at p s)
local_there [] levels s = let all : levels ≡ levels - 0 = omega arith in ap (λ k. local_of k s) all
local_there (n ∷ p) levels s = go (find n (children_of s)) (λ c. local_there p (pred levels) c)
  where
    go : (o : Option Space) → ((c : Space) → is_local_at p (pred levels) c ≡ on_child (local_of (pred levels - length p)) (at p c))
        → on_child (is_local_at p (pred levels)) o ≡ on_child (local_of (levels - suc (length p))) (option_and_then (at p) o)
    go None each = refl
    go (Some c) each = each c ∙ ap (λ k. on_child (local_of k) (at p c)) (one_level levels (length p))

pub call_there : (p : List ℕ) (levels : ℕ) (s : Space) → call_at p levels s ≡ option_and_then (call_of (levels - length p)) (at p s)
call_there [] levels s = let all : levels ≡ levels - 0 = omega arith in ap (λ k. call_of k s) all
call_there (n ∷ p) levels s = go (find n (children_of s)) (λ c. call_there p (pred levels) c)
  where
    go : (o : Option Space) → ((c : Space) → call_at p (pred levels) c ≡ option_and_then (call_of (pred levels - length p)) (at p c))
        → option_and_then (call_at p (pred levels)) o ≡ option_and_then (call_of (levels - suc (length p))) (option_and_then (at p) o)
    go None each = refl
    go (Some c) each = each c ∙ ap (λ k. option_and_then (call_of k) (at p c)) (one_level levels (length p))

pub same_local : (p : List ℕ) (levels : ℕ) (s t : Space) → at p t ≡ at p s → is_local_at p levels t ≡ is_local_at p levels s
same_local p levels s t same = local_there p levels t ∙ ap (on_child (local_of (levels - length p))) same ∙ sym (local_there p levels s)

pub same_call : (p : List ℕ) (levels : ℕ) (s t : Space) → at p t ≡ at p s → call_at p levels t ≡ call_at p levels s
same_call p levels s t same = call_there p levels t ∙ ap (option_and_then (call_of (levels - length p))) same ∙ sym (call_there p levels s)

-- where a local event is next, one may happen
pub local_enabled : (p : List ℕ) (levels : ℕ) (s : Space) → is_local_at p levels s ≡ true → is_enabled p levels s ≡ true
local_enabled [] levels s is = go (next levels (top_of s)) is
  where
    go : (e : NextEvent) → is_local e ≡ true → may_happen e (children_of s) ≡ true
    go rests is = cc
    go (moves t) is = refl
    go (meets k t) is = cc
local_enabled (n ∷ p) levels s is = let c = child_there (is_local_at p (pred levels)) (find n (children_of s)) is in ap (on_child (is_enabled p (pred levels))) c.1 ∙ local_enabled p (pred levels) c.0 c.2

-- what is below a child that is not awaited whole stays
edit_stays : (e : Edit) (all : List Await) (n : ℕ) (cs : Children) → is_awaited_whole n all ≡ false → is_within all e ≡ true → below (find n (edit e cs)) ≡ below (find n cs)
edit_stays (change m t) all n cs un within = go (cases_eq n m)
  where
    go : (n ≡ m) ⊎ (n ≡ m → ⊥) → below (find n (edit (change m t) cs)) ≡ below (find n cs)
    go (inl e) = ap below (ap (λ i. find i (edit (change m t) cs)) e ∙ find-put_same m (space t (below (find m cs))) cs) ∙ ap (λ i. below (find i cs)) (sym e)
    go (inr ne) = ap below (find-put_other n m (space t (below (find m cs))) cs ne)
edit_stays (place m s) all n cs un within = ap below (find-put_other n m s cs (differs n m all is_awaited_whole un within))
edit_stays (take_away m) all n cs un within = ap below (find-remove_other n m cs (differs n m all is_awaited_whole un within))

edits_stay : (es : List Edit) (all : List Await) (n : ℕ) (cs : Children) → is_awaited_whole n all ≡ false → are_within all es ≡ true
    → below (find n (edit_all es cs)) ≡ below (find n cs)
edits_stay [] all n cs un within = refl
edits_stay (e ∷ es) all n cs un within = edits_stay es all n (edit e cs) un (and_parts _ _ within).1 ∙ edit_stays e all n cs un (and_parts _ _ within).0

-- where a call places a space it has settled, and it changes no child that it awaits whole
abbrev Places : List Await → Edit → Type 0
Places all (change n t) = is_awaited_whole n all ≡ false
Places all (place n s) = is_settled s ≡ true
Places all (take_away n) = Unit {0}

abbrev PlacesOne : List Await → List Edit → Type 0
PlacesOne all [] = Unit {0}
PlacesOne all (e ∷ es) = Places all e × (es ≡ [])

-- it changes tops alone, none of a child that it awaits whole
abbrev IsChange : List Await → Edit → Type 0
IsChange all (change n t) = is_awaited_whole n all ≡ false
IsChange all (place n s) = ⊥
IsChange all (take_away n) = ⊥

abbrev AreChanges : List Await → List Edit → Type 0
AreChanges all [] = Unit {0}
AreChanges all (e ∷ es) = IsChange all e × AreChanges all es

-- every call does the one or the other
abbrev PlacesOrChanges : List Await → List Edit → Type 0
PlacesOrChanges all es = PlacesOne all es ⊎ AreChanges all es

settled_children : (o : Option Space) → is_ready Whole o ≡ true → are_settled (below o) ≡ true
settled_children None h = refl
settled_children (Some (space t cs)) h = settled_below t cs h

stopped_or_fresh : (t : Top) (o : Option Space) → is_ready Whole o ≡ true → (let u = or_fresh t (option_map top_of o) in is_stopped u.status) ≡ true
stopped_or_fresh t None h = refl
stopped_or_fresh t (Some (space u cs)) h = settled_stopped (space u cs) h

settled_copy : (n : ℕ) (o : Option Space) (cs : Children) → is_ready Whole o ≡ true → are_settled cs ≡ true → are_settled (edit (copy_to n o) cs) ≡ true
settled_copy n None cs one all = settled_remove n cs all
settled_copy n (Some s) cs one all = settled_put n s cs all one

copied_settled : (n : ℕ) (o : Option Space) (t : Top) (cs : Children) → is_ready Whole o ≡ true → is_stopped t.status ≡ true → are_settled cs ≡ true
    → is_settled (with_copy n o (space t cs)) ≡ true
copied_settled n o t cs one still all = unite (is_stopped t.status) (are_settled (edit (copy_to n o) cs)) still (settled_copy n o cs one all)

copies_settled : (n : ℕ) (o : Option Space) (all : List Await) → ((s : Space) → o ≡ Some s → is_settled s ≡ true) → PlacesOne all (copy_to n o ∷ [])
copies_settled n None all each = (tt, refl)
copies_settled n (Some s) all each = (each s refl, refl)

itself_not_whole : (n : ℕ) → is_awaited_whole n (itself n ∷ []) ≡ false
itself_not_whole n = grind (arith, nat_tests)

-- in a row none is awaited whole
neither_whole : (b c : Bool) → c ≡ false → ((b && false) || c) ≡ false
neither_whole true c h = h
neither_whole false c h = h

row_not_whole : (n first count : ℕ) → is_awaited_whole n (in_row first count) ≡ false
row_not_whole n first zero = refl
row_not_whole n first (suc count) = neither_whole (n == first) (is_awaited_whole n (in_row (first + 1) count)) (row_not_whole n (first + 1) count)

first_change : (b : Bool) (e : Edit) (es : List Edit) (all : List Await) → IsChange all e → AreChanges all es → AreChanges all ((if b then e ∷ [] else []) ++ es)
first_change true e es all one others = (one, others)
first_change false e es all one others = others

starts_change : (all : List Await) (quantum : ℕ) (t : Top) (cs : List Thread) → ((n : ℕ) → is_awaited_whole n all ≡ false) → AreChanges all (starts quantum t cs)
starts_change all quantum t [] alone = tt
starts_change all quantum t (c ∷ cs) alone =
    first_change (waits c.top.status) (change c.number (after_start quantum t c.top)) (starts quantum t cs) all (alone c.number) (starts_change all quantum t cs alone)

renewal_change : (all : List Await) (c : Thread) (o : Option Memory) (es : List Edit) → is_awaited_whole c.number all ≡ false → AreChanges all es → AreChanges all (renewal c o ++ es)
renewal_change all c None es one others = others
renewal_change all c (Some snapshot) es one others = (one, others)

renewals_change : (all : List Await) (cs : List Thread) → ((n : ℕ) → is_awaited_whole n all ≡ false) → AreChanges all (renewals cs)
renewals_change all [] alone = tt
renewals_change all (c ∷ cs) alone = renewal_change all c c.top.snapshot (renewals cs) (alone c.number) (renewals_change all cs alone)

action_places : (k : Call) (t : Top) (cs : Children) → are_ready (awaits k) cs ≡ true → PlacesOrChanges (awaits k) (action k t (seen_of (awaits k) cs)).edits
action_places (Put x) t cs ready = inl (itself_not_whole x.child, refl)
action_places (PutTree number from to) t cs ready =
    let first : is_ready Whole (find number cs) ≡ true = (and_parts _ _ ready).0 in
    let second : is_ready Whole (find from cs) ≡ true = (and_parts _ _ (and_parts _ _ ready).1).0 in
    inl (copied_settled to (find from cs) (or_fresh t (option_map top_of (find number cs))) (below (find number cs)) second (stopped_or_fresh t (find number cs) first) (settled_children (find number cs) first), refl)
action_places (GetTree number from to) t cs ready =
    let first : is_ready Whole (find number cs) ≡ true = (and_parts _ _ ready).0 in
    inl (copies_settled to (find from (below (find number cs))) (awaits (GetTree number from to)) (λ s is. find_settled from (below (find number cs)) s (settled_children (find number cs) first) is))
action_places (Fork number) t cs ready = inl (itself_not_whole number, refl)
action_places (Wait number) t cs ready = inl (tt, refl)
action_places (Tfork number) t cs ready = inl (itself_not_whole number, refl)
action_places (Qstart first count quantum) t cs ready =
    inr (starts_change (in_row first count) quantum t (threads first (seen_of (in_row first count) cs)) (λ n. row_not_whole n first count))
action_places (Qcommit first count) t cs ready =
    inr (renewals_change (in_row first count) (threads first (seen_of (in_row first count) cs)) (λ n. row_not_whole n first count))
action_places k t cs ready = inl tt

unless_places : (o : Option Refusal) (t : Top) (m : Meeting) (all : List Await) → PlacesOrChanges all m.edits → PlacesOrChanges all (unless_refused o t m).edits
unless_places None t m all h = h
unless_places (Some r) t m all h = inl tt

meeting_places : (levels : ℕ) (k : Call) (t : Top) (cs : Children) → are_ready (awaits k) cs ≡ true → PlacesOrChanges (awaits k) (meeting levels k t (seen_of (awaits k) cs)).edits
meeting_places levels k t cs ready =
    let seen = seen_of (awaits k) cs in
    unless_places (first_refusal (refusals levels k t seen)) t (action k t seen) (awaits k) (action_places k t cs ready)

removed_none : (levels fuel least n : ℕ) (cs : Children) → AreSound levels fuel least cs → find n (remove_child n cs) ≡ None
removed_none levels fuel least n none sound = refl
removed_none zero fuel least n (child m c rest) sound = absurd sound
removed_none (suc levels) fuel least n (child m c rest) sound = go (cases_eq n m) (removed_none (suc levels) fuel (suc m) n rest sound.3)
  where
    go : (n ≡ m) ⊎ (n ≡ m → ⊥) → find n (remove_child n rest) ≡ None → find n (cond (n == m) rest (child m c (remove_child n rest))) ≡ None
    go (inl e) later =
        let away : find n rest ≡ None = below_least (suc levels) fuel (suc m) n rest sound.3 (omega (arith, e)) in
        let same : (n == m) ≡ true = grind (arith, nat_tests) in
        rw (same, away) refl
    go (inr ne) later =
        let other : (n == m) ≡ false = grind (arith, nat_tests) in
        ap (λ b. find n (cond b rest (child m c (remove_child n rest)))) other ∙ ap (λ b. cond b (Some c) (find n (remove_child n rest))) other ∙ later

place_settled : (e : Edit) (all : List Await) (levels fuel least n : ℕ) (cs : Children) → AreSound levels fuel least cs → is_awaited_whole n all ≡ true → Places all e
    → ((d : Space) → find n cs ≡ Some d → is_settled d ≡ true) → (d : Space) → find n (edit e cs) ≡ Some d → is_settled d ≡ true
place_settled (change m t) all levels fuel least n cs sound whole unchanged before d is =
    let ne : m ≢ n = differs m n all is_awaited_whole unchanged whole in
    before d (sym (find-put_other n m (space t (below (find m cs))) cs (λ e. ne (sym e))) ∙ is)
place_settled (place m s) all levels fuel least n cs sound whole placed before d is = go (cases_eq n m)
  where
    go : (n ≡ m) ⊎ (n ≡ m → ⊥) → is_settled d ≡ true
    go (inl e) =
        let there : find n (put_child m s cs) ≡ Some s = ap (λ i. find i (put_child m s cs)) e ∙ find-put_same m s cs in
        let same : s ≡ d = cc in
        ap is_settled (sym same) ∙ placed
    go (inr ne) = before d (sym (find-put_other n m s cs ne) ∙ is)
place_settled (take_away m) all levels fuel least n cs sound whole gone before d is = go (cases_eq n m)
  where
    go : (n ≡ m) ⊎ (n ≡ m → ⊥) → is_settled d ≡ true
    go (inl e) =
        let away : find n (remove_child m cs) ≡ None = ap (λ i. find n (remove_child i cs)) (sym e) ∙ removed_none levels fuel least n cs sound in
        cc
    go (inr ne) = before d (sym (find-remove_other n m cs ne) ∙ is)

places_settled : (es : List Edit) (all : List Await) (levels fuel least n : ℕ) (cs : Children) → AreSound levels fuel least cs → is_awaited_whole n all ≡ true → PlacesOne all es
    → ((d : Space) → find n cs ≡ Some d → is_settled d ≡ true) → (d : Space) → find n (edit_all es cs) ≡ Some d → is_settled d ≡ true
places_settled [] all levels fuel least n cs sound whole one before d is = before d is
places_settled (e ∷ es) all levels fuel least n cs sound whole one before d is =
    place_settled e all levels fuel least n cs sound whole one.0 before d (ap (λ xs. find n (edit_all xs (edit e cs))) (sym one.1) ∙ is)

changes_settled : (es : List Edit) (all : List Await) (n : ℕ) (cs : Children) → is_awaited_whole n all ≡ true → AreChanges all es
    → ((d : Space) → find n cs ≡ Some d → is_settled d ≡ true) → (d : Space) → find n (edit_all es cs) ≡ Some d → is_settled d ≡ true
changes_settled [] all n cs whole each before d is = before d is
changes_settled (change m t ∷ es) all n cs whole each before d is =
    let ne : m ≢ n = differs m n all is_awaited_whole each.0 whole in
    changes_settled es all n (edit (change m t) cs) whole each.1 (λ c found. before c (sym (find-put_other n m (space t (below (find m cs))) cs (λ e. ne (sym e))) ∙ found)) d is
changes_settled (place m s ∷ es) all n cs whole each before d is = absurd each.0
changes_settled (take_away m ∷ es) all n cs whole each before d is = absurd each.0

either_settled : (es : List Edit) (all : List Await) (levels fuel least n : ℕ) (cs : Children) → AreSound levels fuel least cs → is_awaited_whole n all ≡ true → PlacesOrChanges all es
    → ((d : Space) → find n cs ≡ Some d → is_settled d ≡ true) → (d : Space) → find n (edit_all es cs) ≡ Some d → is_settled d ≡ true
either_settled es all levels fuel least n cs sound whole (inl one) before d is = places_settled es all levels fuel least n cs sound whole one before d is
either_settled es all levels fuel least n cs sound whole (inr each) before d is = changes_settled es all n cs whole each before d is

-- a child that is awaited whole has settled after the call as well
pub whole_settled : (levels fuel : ℕ) (k : Call) (u : Top) (n : ℕ) (cs : Children) (d : Space) → AreSound levels fuel 0 cs → are_ready (awaits k) cs ≡ true
    → is_awaited_whole n (awaits k) ≡ true → find n (children_of (meet levels k u cs)) ≡ Some d → is_settled d ≡ true
whole_settled levels fuel k u n cs d sound ready whole is =
    either_settled (meeting levels k u (seen_of (awaits k) cs)).edits (awaits k) levels fuel 0 n cs sound whole (meeting_places levels k u cs ready)
    (λ c found. awaited_settled (awaits k) n cs c whole ready found) d is

through : (n m : ℕ) (p : List ℕ) (o : Option Space) → option_and_then (at (m ∷ p)) o ≡ option_and_then (at p) (find m (below o))
through n m p None = refl
through n m p (Some c) = refl

through_same : (m : ℕ) (p : List ℕ) (o r : Option Space) → below o ≡ below r → option_and_then (at (m ∷ p)) o ≡ option_and_then (at (m ∷ p)) r
through_same m p o r same = through 0 m p o ∙ ap (λ cs. option_and_then (at p) (find m cs)) same ∙ sym (through 0 m p r)

-- below a child that is awaited: what is there has stayed, or nothing may happen there
deep_stays : (n m : ℕ) (p : List ℕ) (levels fuel : ℕ) (k : Call) (u : Top) (cs : Children) (b : Bool) → is_awaited_whole n (awaits k) ≡ b → AreSound levels fuel 0 cs → are_ready (awaits k) cs ≡ true
    → is_enabled (n ∷ m ∷ p) levels (meet levels k u cs) ≡ true → option_and_then (at (m ∷ p)) (find n (children_of (meet levels k u cs))) ≡ option_and_then (at (m ∷ p)) (find n cs)
deep_stays n m p levels fuel k u cs false un sound ready may =
    let seen = seen_of (awaits k) cs in
    through_same m p (find n (children_of (meet levels k u cs))) (find n cs) (edits_stay (meeting levels k u seen).edits (awaits k) n cs un (meeting_within levels k u cs))
deep_stays n m p levels fuel k u cs true whole sound ready may =
    let d = child_there (is_enabled (m ∷ p) (pred levels)) (find n (children_of (meet levels k u cs))) may in
    absurd (settled_rests (m ∷ p) (pred levels) d.0 (whole_settled levels fuel k u n cs d.0 sound ready whole d.1) d.2)

-- after a call has met its children, of a path from its caller on
meeting_near : (n : ℕ) (p : List ℕ) (levels fuel : ℕ) (k : Call) (t u : Top) (cs : Children) → AreSound levels fuel 0 cs → are_ready (awaits k) cs ≡ true
    → is_enabled (n ∷ p) levels (meet levels k u cs) ≡ true → (at (n ∷ p) (meet levels k u cs) ≡ at (n ∷ p) (space t cs)) ⊎ IsNear (awaits k) (n ∷ p) []
meeting_near n p levels fuel k t u cs sound ready may = go (is_awaited n (awaits k)) refl p may
  where
    go : (b : Bool) → is_awaited n (awaits k) ≡ b → (r : List ℕ) → is_enabled (n ∷ r) levels (meet levels k u cs) ≡ true
        → (at (n ∷ r) (meet levels k u cs) ≡ at (n ∷ r) (space t cs)) ⊎ IsNear (awaits k) (n ∷ r) []
    go false un r may = inl (ap (option_and_then (at r)) (find-meet_other levels k u n cs un))
    go true is [] may = inr (inr is)
    go true is (m ∷ r) may = inl (deep_stays n m r levels fuel k u cs (is_awaited_whole n (awaits k)) refl sound ready may)

-- a call that may meet its children is next, and they are ready
pub ready_found : (e : NextEvent) (cs : Children) (k : Call) → ready_call e cs ≡ Some k → (u : Top) × (e ≡ meets k u) × (are_ready (awaits k) cs ≡ true)
ready_found rests cs k is = cc
ready_found (moves t) cs k is = cc
ready_found (meets j u) cs k is = go (are_ready (awaits j) cs) refl is
  where
    go : (b : Bool) → are_ready (awaits j) cs ≡ b → cond b (Some j) None ≡ Some k → (v : Top) × (meets j u ≡ meets k v) × (are_ready (awaits k) cs ≡ true)
    go true ready is = let same : j ≡ k = cc in (u, ap (λ i. meets i u) same, ap (λ i. are_ready (awaits i) cs) (sym same) ∙ ready)
    go false ready is = cc

call_there_child : (q : List ℕ) (levels : ℕ) (o : Option Space) (k : Call) → option_and_then (call_at q levels) o ≡ Some k → (c : Space) × (o ≡ Some c) × (call_at q levels c ≡ Some k)
call_there_child q levels None k is = cc
call_there_child q levels (Some c) k is = (c, refl, is)

-- after a call has met its children: where an event may happen, the space is as it was before, or stands near the call
pub enabled_near : (p q : List ℕ) (levels : ℕ) (root : Bool) (fuel : ℕ) (s : Space) (k : Call) → IsSoundAt levels root fuel s → call_at q levels s ≡ Some k
    → is_enabled p levels (step q levels s) ≡ true → (at p (step q levels s) ≡ at p s) ⊎ IsNear (awaits k) p q
enabled_near [] q levels root fuel s k sound is may = inr (inl tt)
enabled_near (n ∷ p) [] levels root fuel (space t cs) k sound is may =
    let found = ready_found (next levels t) cs k is in
    let done : step [] levels (space t cs) ≡ meet levels k found.0 cs = ap (λ e. event levels e (space t cs)) found.1 in
    subst (λ x. (at (n ∷ p) x ≡ at (n ∷ p) (space t cs)) ⊎ IsNear (awaits k) (n ∷ p) []) (sym done)
    (meeting_near n p levels fuel k t found.0 cs sound.1 found.2 (ap (is_enabled (n ∷ p) levels) (sym done) ∙ may))
enabled_near (n ∷ p) (m ∷ q) levels root fuel (space t cs) k sound is may =
    go (λ c below now may. enabled_near p q (pred levels) false fuel c k below now may) (cases_eq n m)
  where
    carry : (c : Space) → n ≡ m → find n cs ≡ Some c → find n (over m (step q (pred levels)) cs) ≡ Some (step q (pred levels) c)
        → (at p (step q (pred levels) c) ≡ at p c) ⊎ IsNear (awaits k) p q
        → (at (n ∷ p) (space t (over m (step q (pred levels)) cs)) ≡ at (n ∷ p) (space t cs)) ⊎ IsNear (awaits k) (n ∷ p) (m ∷ q)
    carry c e found after (inl same) = inl (ap (option_and_then (at p)) after ∙ same ∙ sym (ap (option_and_then (at p)) found))
    carry c e found after (inr (inl way)) = inr (inl (e, way))
    carry c e found after (inr (inr other)) = inr (inr (e, other))

    go : ((c : Space) → IsSoundAt (pred levels) false fuel c → call_at q (pred levels) c ≡ Some k → is_enabled p (pred levels) (step q (pred levels) c) ≡ true
        → (at p (step q (pred levels) c) ≡ at p c) ⊎ IsNear (awaits k) p q) → (n ≡ m) ⊎ (n ≡ m → ⊥)
        → (at (n ∷ p) (space t (over m (step q (pred levels)) cs)) ≡ at (n ∷ p) (space t cs)) ⊎ IsNear (awaits k) (n ∷ p) (m ∷ q)
    go rec (inr ne) = inl (ap (option_and_then (at p)) (find-over_other n m (step q (pred levels)) cs ne))
    go rec (inl e) =
        let c = call_there_child q (pred levels) (find m cs) k is in
        let found : find n cs ≡ Some c.0 = ap (λ i. find i cs) e ∙ c.1 in
        let after : find n (over m (step q (pred levels)) cs) ≡ Some (step q (pred levels) c.0) =
        ap (λ i. find i (over m (step q (pred levels)) cs)) e ∙ find-over_same m (step q (pred levels)) cs ∙ ap (option_map (step q (pred levels))) c.1 in
        let inner : is_enabled p (pred levels) (step q (pred levels) c.0) ≡ true = sym (ap (on_child (is_enabled p (pred levels))) after) ∙ may in
        carry c.0 e found after (rec c.0 (found_sound levels fuel m cs sound.1 c.0 c.1) c.2 inner)

-- the top of a space that may go on stays where the call of another space has met its children
stays_by_meeting : (n : ℕ) (p : List ℕ) (levels fuel : ℕ) (k : Call) (t u : Top) (cs : Children) → AreSound levels fuel 0 cs → are_ready (awaits k) cs ≡ true
    → is_enabled (n ∷ p) levels (space t cs) ≡ true → top_at (n ∷ p) (meet levels k u cs) ≡ top_at (n ∷ p) (space t cs)
stays_by_meeting n p levels fuel k t u cs sound ready may =
    let c = child_there (is_enabled p (pred levels)) (find n cs) may in
    go c.0 c.1 (is_awaited n (awaits k)) refl p c.2
  where
    below_same : (c : Space) → find n cs ≡ Some c → (b : Bool) → is_awaited_whole n (awaits k) ≡ b → (m : ℕ) (r : List ℕ) → is_enabled (m ∷ r) (pred levels) c ≡ true
        → top_at (n ∷ m ∷ r) (meet levels k u cs) ≡ top_at (n ∷ m ∷ r) (space t cs)
    below_same c found false un m r may =
        let seen = seen_of (awaits k) cs in
        ap (option_map top_of) (through_same m r (find n (children_of (meet levels k u cs))) (find n cs) (edits_stay (meeting levels k u seen).edits (awaits k) n cs un (meeting_within levels k u cs)))
    below_same c found true whole m r may = absurd (settled_rests (m ∷ r) (pred levels) c (awaited_settled (awaits k) n cs c whole ready found) may)

    go : (c : Space) → find n cs ≡ Some c → (b : Bool) → is_awaited n (awaits k) ≡ b → (r : List ℕ) → is_enabled r (pred levels) c ≡ true
        → top_at (n ∷ r) (meet levels k u cs) ≡ top_at (n ∷ r) (space t cs)
    go c found false un r may = ap (λ o. option_map top_of (option_and_then (at r) o)) (find-meet_other levels k u n cs un)
    go (space v ds) found true is [] may = absurd (stopped_waits (pred levels) v ds (awaited_stopped (awaits k) n cs (space v ds) is ready found) may)
    go c found true is (m ∷ r) may = below_same c found (is_awaited_whole n (awaits k)) refl m r may

pub going_on_stays : (p q : List ℕ) (levels : ℕ) (root : Bool) (fuel : ℕ) (s : Space) (k : Call) → IsSoundAt levels root fuel s → p ≢ q → is_enabled p levels s ≡ true
    → call_at q levels s ≡ Some k → top_at p (step q levels s) ≡ top_at p s
going_on_stays [] [] levels root fuel s k sound ne may is = absurd (ne refl)
going_on_stays [] (m ∷ q) levels root fuel (space t cs) k sound ne may is = refl
going_on_stays (n ∷ p) [] levels root fuel (space t cs) k sound ne may is =
    let found = ready_found (next levels t) cs k is in
    let done : step [] levels (space t cs) ≡ meet levels k found.0 cs = ap (λ e. event levels e (space t cs)) found.1 in
    ap (top_at (n ∷ p)) done ∙ stays_by_meeting n p levels fuel k t found.0 cs sound.1 found.2 may
going_on_stays (n ∷ p) (m ∷ q) levels root fuel (space t cs) k sound ne may is =
    go (λ c below apart may now. going_on_stays p q (pred levels) false fuel c k below apart may now) (cases_eq n m)
  where
    go : ((c : Space) → IsSoundAt (pred levels) false fuel c → p ≢ q → is_enabled p (pred levels) c ≡ true → call_at q (pred levels) c ≡ Some k
        → top_at p (step q (pred levels) c) ≡ top_at p c) → (n ≡ m) ⊎ (n ≡ m → ⊥) → top_at (n ∷ p) (space t (over m (step q (pred levels)) cs)) ≡ top_at (n ∷ p) (space t cs)
    go rec (inr other) = ap (λ o. option_map top_of (option_and_then (at p) o)) (find-over_other n m (step q (pred levels)) cs other)
    go rec (inl e) =
        let c = call_there_child q (pred levels) (find m cs) k is in
        let found : find n cs ≡ Some c.0 = ap (λ i. find i cs) e ∙ c.1 in
        let after : find n (over m (step q (pred levels)) cs) ≡ Some (step q (pred levels) c.0) =
        ap (λ i. find i (over m (step q (pred levels)) cs)) e ∙ find-over_same m (step q (pred levels)) cs ∙ ap (option_map (step q (pred levels))) c.1 in
        let apart : p ≢ q = λ x. ne (ap₂ (λ i is. i ∷ is) e x) in
        let inner : is_enabled p (pred levels) c.0 ≡ true = sym (ap (on_child (is_enabled p (pred levels))) found) ∙ may in
        ap (λ o. option_map top_of (option_and_then (at p) o)) after ∙ rec c.0 (found_sound levels fuel m cs sound.1 c.0 c.1) apart inner c.2 ∙ sym (ap (λ o. option_map top_of (option_and_then (at p) o)) found)
