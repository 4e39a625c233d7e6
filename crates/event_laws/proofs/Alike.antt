-- An event that may happen is the same behind a different one that may happen: the top at its path stays, what it sees stays, and so does what it makes
-- of that top.
use Rattle.std.proofs.Common.{◌≡◌, ℕ, pred, ◌≢◌, Bool, true, false, List, [], ◌∷◌, Option, Some, None, refl, sym, ◌∙◌, ap, ap₂, arith, inl, inr, ◌⊎◌, true≢false}
use Rattle.std.proofs.lemmas.Bool.Decides.{nat_tests}
use Rattle.std.proofs.lemmas.Bool.{cases_eq}
use Rattle.std.specs.Prelude.{option_map, option_and_then, if◌then◌else◌}
use Rattle.call_model.specs.declared.Call.{Call}
use Rattle.space_model.specs.declared.Reach.{Reach}
use Rattle.space_model.specs.declared.Reach.TheVariants.{Itself, Whole}
use Rattle.space_model.specs.declared.Await.{Await}
use Rattle.space_model.specs.Space.{Top, Space, space, Children, top_of, find, over}
use Rattle.space_model.specs.Path.{under}
use Rattle.space_model.specs.Call.{Seen, see, seen_of}
use Rattle.space_model.specs.Event.{NextEvent, rests, moves, meets, next}
use Rattle.space_model.specs.Meeting.{awaits, meet}
use Rattle.space_model.proofs.Children.{find-over_other, find-over_same}
use Rattle.run_model.specs.Schedule.{are_ready, may_happen, event, on_child, is_enabled, step}
use Rattle.det_laws.specs.Near.{is_awaited}
use Rattle.det_laws.proofs.Frames.{is_whole, is_awaited_whole, find-meet_other, meet_below}
use Rattle.det_laws.proofs.Commutes.{child_there, stopped_waits, settled_rests, awaited_settled, awaited_stopped, pass_one_another}
use Rattle.event_laws.specs.OwnEvents.{OwnEvent, seen_by, own_event_at}

-- what is seen does not change by another child
seen_other : (all : List Await) (n : ℕ) (f : Space → Space) (cs : Children) → is_awaited n all ≡ false → seen_of all (over n f cs) ≡ seen_of all cs
seen_other [] n f cs un = refl
seen_other (a ∷ others) n f cs un =
    let ne : a.number ≢ n = grind (arith, nat_tests) in
    ap₂ (λ o r. see a.reach o ∷ r) (find-over_other a.number n f cs ne) (seen_other others n f cs (grind (arith, nat_tests)))

see_itself : (reach : Reach) (g : Children → Children) (o : Option Space) → is_whole reach ≡ false → see reach (option_map (under g) o) ≡ see reach o
see_itself Itself g None un = refl
see_itself Itself g (Some (space t cs)) un = refl
see_itself Whole g o un = absurd (true≢false un)

-- nor by what is below a child that is awaited itself
seen_below : (all : List Await) (n : ℕ) (g : Children → Children) (cs : Children) → is_awaited_whole n all ≡ false → seen_of all (over n (under g) cs) ≡ seen_of all cs
seen_below [] n g cs un = refl
seen_below (a ∷ others) n g cs un = ap₂ (λ o r. o ∷ r) (go (cases_eq a.number n)) (seen_below others n g cs (grind (arith, nat_tests)))
  where
    go : (a.number ≡ n) ⊎ (a.number ≡ n → ⊥) → see a.reach (find a.number (over n (under g) cs)) ≡ see a.reach (find a.number cs)
    go (inl e) = let w : is_whole a.reach ≡ false = grind (arith, nat_tests) in rw (e, find-over_same n (under g) cs) (see_itself a.reach g (find n cs) w)
    go (inr ne) = ap (see a.reach) (find-over_other a.number n (under g) cs ne)

-- a call that may meet its children sees the same behind an event at or below a child
call_sees : (k : Call) (n : ℕ) (q : List ℕ) (levels : ℕ) (cs : Children) (c : Space) → are_ready (awaits k) cs ≡ true → find n cs ≡ Some c → is_enabled q levels c ≡ true
    → seen_of (awaits k) (over n (step q levels) cs) ≡ seen_of (awaits k) cs
call_sees k n [] levels cs (space t ds) ready is may = go (is_awaited n (awaits k)) refl
  where
    go : (b : Bool) → is_awaited n (awaits k) ≡ b → seen_of (awaits k) (over n (step [] levels) cs) ≡ seen_of (awaits k) cs
    go false un = seen_other (awaits k) n (step [] levels) cs un
    go true named = absurd (stopped_waits levels t ds (awaited_stopped (awaits k) n cs (space t ds) named ready is) may)
call_sees k n (m ∷ q) levels cs c ready is may = go (is_awaited_whole n (awaits k)) refl
  where
    go : (b : Bool) → is_awaited_whole n (awaits k) ≡ b → seen_of (awaits k) (over n (step (m ∷ q) levels) cs) ≡ seen_of (awaits k) cs
    go false un = seen_below (awaits k) n (over m (step q (pred levels))) cs un
    go true named = absurd (settled_rests (m ∷ q) levels c (awaited_settled (awaits k) n cs c named ready is) may)

event_sees : (e : NextEvent) (n : ℕ) (q : List ℕ) (levels : ℕ) (cs : Children) (c : Space) → may_happen e cs ≡ true → find n cs ≡ Some c → is_enabled q levels c ≡ true
    → seen_by e (over n (step q levels) cs) ≡ seen_by e cs
event_sees rests n q levels cs c may is below = refl
event_sees (moves u) n q levels cs c may is below = refl
event_sees (meets k u) n q levels cs c may is below = call_sees k n q levels cs c may is below

top_under : (g : Children → Children) (s : Space) → top_of (under g s) ≡ top_of s
top_under g (space t cs) = refl

-- an event where it may happen
abbrev told : Bool → Top → List Seen → Top → Option OwnEvent
told b t xs u = if b then Some (record { before = t; sees = xs; after = u }) else None

alike : (a b : Bool) (t : Top) (xs ys : List Seen) (u v : Top) → a ≡ b → xs ≡ ys → u ≡ v → told a t xs u ≡ told b t ys v
alike a b t xs ys u v ea ex eu = ap (λ i. told i t xs u) ea ∙ ap (λ l. told b t l u) ex ∙ ap (told b t ys) eu

-- an event of a space behind one at or below a child
behind_child : (n : ℕ) (q : List ℕ) (levels : ℕ) (t : Top) (cs : Children) → is_enabled [] levels (space t cs) ≡ true → is_enabled (n ∷ q) levels (space t cs) ≡ true
    → own_event_at [] levels (step (n ∷ q) levels (space t cs)) ≡ own_event_at [] levels (space t cs)
behind_child n q levels t cs may below =
    let c = child_there (is_enabled q (pred levels)) (find n cs) below in
    let passes = pass_one_another [] (n ∷ q) levels (space t cs) (λ e. cc) may below in
    let f = step q (pred levels) in
    let e = next levels t in
    let sees : seen_by e (over n f cs) ≡ seen_by e cs = event_sees e n q (pred levels) cs c.0 may c.1 c.2 in
    let makes : top_of (event levels e (space t (over n f cs))) ≡ top_of (event levels e (space t cs)) = ap top_of passes.2 ∙ top_under (over n f) (event levels e (space t cs)) in
    alike (may_happen e (over n f cs)) (may_happen e cs) t (seen_by e (over n f cs)) (seen_by e cs) (top_of (event levels e (space t (over n f cs)))) (top_of (event levels e (space t cs)))
    (passes.0 ∙ sym may) sees makes

-- a child that may go on, at or below it, is behind a call of its parent what it was before, but for its top where the event is below it
behind_call : (k : Call) (u t : Top) (n : ℕ) (p : List ℕ) (levels : ℕ) (cs : Children) (c : Space) → are_ready (awaits k) cs ≡ true → find n cs ≡ Some c
    → is_enabled p (pred levels) c ≡ true → own_event_at (n ∷ p) levels (meet levels k u cs) ≡ own_event_at (n ∷ p) levels (space t cs)
behind_call k u t n [] levels cs (space v ds) ready is may = go (is_awaited n (awaits k)) refl
  where
    go : (b : Bool) → is_awaited n (awaits k) ≡ b → own_event_at (n ∷ []) levels (meet levels k u cs) ≡ own_event_at (n ∷ []) levels (space t cs)
    go false un = ap (option_and_then (own_event_at [] (pred levels))) (find-meet_other levels k u n cs un)
    go true named = absurd (stopped_waits (pred levels) v ds (awaited_stopped (awaits k) n cs (space v ds) named ready is) may)
behind_call k u t n (m ∷ p) levels cs c ready is may = go (is_awaited_whole n (awaits k)) refl
  where
    go : (b : Bool) → is_awaited_whole n (awaits k) ≡ b → own_event_at (n ∷ m ∷ p) levels (meet levels k u cs) ≡ own_event_at (n ∷ m ∷ p) levels (space t cs)
    go false un =
        let stays = (meet_below levels k u n (λ ds. ds) cs c un is).1 in
        ap (option_and_then (own_event_at (m ∷ p) (pred levels))) stays.1
        ∙ ap (λ ds. option_and_then (own_event_at p (pred (pred levels))) (find m ds)) stays.2
        ∙ ap (option_and_then (own_event_at (m ∷ p) (pred levels))) (sym is)
    go true named = absurd (settled_rests (m ∷ p) (pred levels) c (awaited_settled (awaits k) n cs c named ready is) may)

behind_event : (e : NextEvent) (t : Top) (n : ℕ) (p : List ℕ) (levels : ℕ) (cs : Children) (c : Space) → may_happen e cs ≡ true → find n cs ≡ Some c
    → is_enabled p (pred levels) c ≡ true → own_event_at (n ∷ p) levels (event levels e (space t cs)) ≡ own_event_at (n ∷ p) levels (space t cs)
behind_event rests t n p levels cs c may is below = refl
behind_event (moves u) t n p levels cs c may is below = refl
behind_event (meets k u) t n p levels cs c may is below = behind_call k u t n p levels cs c may is below

-- of two different events that may happen, each is the same behind the other
pub same_behind : (p q : List ℕ) (levels : ℕ) (s : Space) → p ≢ q → is_enabled p levels s ≡ true → is_enabled q levels s ≡ true
    → own_event_at p levels (step q levels s) ≡ own_event_at p levels s
same_behind [] [] levels s ne a b = absurd (ne refl)
same_behind [] (n ∷ q) levels (space t cs) ne a b = behind_child n q levels t cs a b
same_behind (n ∷ p) [] levels (space t cs) ne a b =
    let c = child_there (is_enabled p (pred levels)) (find n cs) a in
    behind_event (next levels t) t n p levels cs c.0 b c.1 c.2
same_behind (n ∷ p) (m ∷ q) levels (space t cs) ne a b =
    let c = child_there (is_enabled p (pred levels)) (find n cs) a in
    go (λ apart other. same_behind p q (pred levels) c.0 apart c.2 other) c.1 (cases_eq n m)
  where
    go : {c : Space} → (p ≢ q → is_enabled q (pred levels) c ≡ true → own_event_at p (pred levels) (step q (pred levels) c) ≡ own_event_at p (pred levels) c) → find n cs ≡ Some c
        → (n ≡ m) ⊎ (n ≡ m → ⊥) → own_event_at (n ∷ p) levels (space t (over m (step q (pred levels)) cs)) ≡ own_event_at (n ∷ p) levels (space t cs)
    go {c} below is (inl e) =
        let f = step q (pred levels) in
        let there : find m cs ≡ Some c = ap (λ i. find i cs) (sym e) ∙ is in
        let other : is_enabled q (pred levels) c ≡ true = ap (on_child (is_enabled q (pred levels))) (sym there) ∙ b in
        let apart : p ≢ q = λ x. ne (ap₂ (λ i is. i ∷ is) e x) in
        let found : find n (over m f cs) ≡ Some (f c) = ap (λ i. find i (over m f cs)) e ∙ find-over_same m f cs ∙ ap (option_map f) there in
        ap (option_and_then (own_event_at p (pred levels))) found ∙ below apart other ∙ ap (option_and_then (own_event_at p (pred levels))) (sym is)
    go below is (inr apart) = ap (option_and_then (own_event_at p (pred levels))) (find-over_other n m (step q (pred levels)) cs apart)
