-- Two different events that may happen pass one another: they are of parts of the tree that do not meet, or one is of a space whose call
-- awaits nothing on the way to the other.
use Rattle.std.proofs.Common.{◌≡◌, ℕ, pred, ◌≢◌, Bool, true, false, List, [], ◌∷◌, Option, Some, None, refl, sym, ◌∙◌, ap, ap₂, arith, inl, inr, ◌⊎◌, subst, true≢false}
use Rattle.std.proofs.lemmas.Bool.Decides.{nat_tests}
use Rattle.std.proofs.lemmas.Bool.{cases_eq, and_parts}
use Rattle.std.specs.Prelude.{option_map}
use Rattle.call_model.specs.declared.Call.{Call}
use Rattle.space_model.specs.declared.Reach.{Reach}
use Rattle.space_model.specs.declared.Reach.TheVariants.{Itself, Whole}
use Rattle.space_model.specs.declared.Await.{Await}
use Rattle.space_model.specs.Stop.{is_stopped}
use Rattle.space_model.specs.Space.{Top, Space, space, Children, none, child, top_of, children_of, find, over, is_settled, are_settled}
use Rattle.space_model.specs.Path.{under}
use Rattle.space_model.specs.Event.{NextEvent, rests, moves, meets, next}
use Rattle.space_model.specs.Meeting.{awaits}
use Rattle.space_model.proofs.Settled.{both}
use Rattle.space_model.proofs.Children.{find-over_other, find-over_same, over-over_other, over-over_same, over-at}
use Rattle.run_model.specs.Schedule.{is_ready, are_ready, may_happen, event, on_child, is_enabled, step}
use Rattle.run_model.proofs.Fuel.{stopped_rests}
use Rattle.det_laws.specs.Near.{is_awaited}
use Rattle.det_laws.proofs.Frames.{is_whole, is_awaited_whole, meet_other, find-meet_other, meet_below}

pub settled_stopped : (c : Space) → is_settled c ≡ true → is_stopped (top_of c).status ≡ true
settled_stopped (space t cs) h = (both (is_stopped t.status) (are_settled cs) h).0

pub settled_below : (t : Top) (cs : Children) → is_settled (space t cs) ≡ true → are_settled cs ≡ true
settled_below t cs h = (both (is_stopped t.status) (are_settled cs) h).1

pub find_settled : (n : ℕ) (cs : Children) (c : Space) → are_settled cs ≡ true → find n cs ≡ Some c → is_settled c ≡ true
find_settled n none c all is = cc
find_settled n (child m d rest) c all is =
    let h = both (is_settled d) (are_settled rest) all in
    let first = h.0 in
    let later = find_settled n rest c h.1 in
    grind (arith, nat_tests, first, later)

pub child_there : (f : Space → Bool) (o : Option Space) → on_child f o ≡ true → (c : Space) × (o ≡ Some c) × (f c ≡ true)
child_there f None h = absurd (true≢false (sym h))
child_there f (Some c) h = (c, refl, h)

-- of a space that has stopped nothing may happen
pub stopped_waits : (levels : ℕ) (t : Top) (cs : Children) → is_stopped t.status ≡ true → is_enabled [] levels (space t cs) ≡ true → ⊥
stopped_waits levels t cs still may = true≢false (sym may ∙ ap (λ x. may_happen x cs) (stopped_rests levels t still))

-- nor of a settled tree
pub settled_rests : (p : List ℕ) (levels : ℕ) (s : Space) → is_settled s ≡ true → is_enabled p levels s ≡ true → ⊥
settled_rests [] levels (space t cs) still may = stopped_waits levels t cs (settled_stopped (space t cs) still) may
settled_rests (n ∷ p) levels (space t cs) still may =
    let c = child_there (is_enabled p (pred levels)) (find n cs) may in
    settled_rests p (pred levels) c.0 (find_settled n cs c.0 (settled_below t cs still) c.1) c.2

ready_stopped : (reach : Reach) (c : Space) → is_ready reach (Some c) ≡ true → is_stopped (top_of c).status ≡ true
ready_stopped Whole c h = settled_stopped c h
ready_stopped Itself c h = h

ready_settled : (reach : Reach) (c : Space) → is_whole reach ≡ true → is_ready reach (Some c) ≡ true → is_settled c ≡ true
ready_settled Whole c w h = h
ready_settled Itself c w h = absurd (true≢false (sym w))

-- a child that is awaited is ready
ready_child : (a : Await) (others : List Await) (n : ℕ) (cs : Children) (c : Space) → are_ready (a ∷ others) cs ≡ true → find n cs ≡ Some c
    → n ≡ a.number → is_ready a.reach (Some c) ≡ true
ready_child a others n cs c r is e =
    let at : find a.number cs ≡ Some c = ap (λ i. find i cs) (sym e) ∙ is in
    ap (is_ready a.reach) (sym at) ∙ (and_parts _ _ r).0

pub awaited_settled : (as' : List Await) (n : ℕ) (cs : Children) (c : Space) → is_awaited_whole n as' ≡ true → are_ready as' cs ≡ true
    → find n cs ≡ Some c → is_settled c ≡ true
awaited_settled [] n cs c w r is = absurd (true≢false (sym w))
awaited_settled (a ∷ others) n cs c w r is = go (λ h. awaited_settled others n cs c h (and_parts _ _ r).1 is) (cases_eq n a.number) (is_whole a.reach) refl
  where
    go : (is_awaited_whole n others ≡ true → is_settled c ≡ true) → (n ≡ a.number) ⊎ (n ≡ a.number → ⊥) → (b : Bool) → is_whole a.reach ≡ b
        → is_settled c ≡ true
    go rec (inl e) true wh = ready_settled a.reach c wh (ready_child a others n cs c r is e)
    go rec (inl e) false wh = rec (grind (arith, nat_tests))
    go rec (inr ne) b wh = rec (grind (arith, nat_tests))

pub awaited_stopped : (as' : List Await) (n : ℕ) (cs : Children) (c : Space) → is_awaited n as' ≡ true → are_ready as' cs ≡ true → find n cs ≡ Some c
    → is_stopped (top_of c).status ≡ true
awaited_stopped [] n cs c w r is = absurd (true≢false (sym w))
awaited_stopped (a ∷ others) n cs c w r is = go (λ h. awaited_stopped others n cs c h (and_parts _ _ r).1 is) (cases_eq n a.number)
  where
    go : (is_awaited n others ≡ true → is_stopped (top_of c).status ≡ true) → (n ≡ a.number) ⊎ (n ≡ a.number → ⊥) → is_stopped (top_of c).status ≡ true
    go rec (inl e) = ready_stopped a.reach c (ready_child a others n cs c r is e)
    go rec (inr ne) = rec (grind (arith, nat_tests))

-- whether awaited children are ready does not change by another child
ready_other : (as' : List Await) (n : ℕ) (f : Space → Space) (cs : Children) → is_awaited n as' ≡ false → are_ready as' (over n f cs) ≡ are_ready as' cs
ready_other [] n f cs un = refl
ready_other (a ∷ others) n f cs un =
    let ne : a.number ≢ n = grind (arith, nat_tests) in
    rw (find-over_other a.number n f cs ne, ready_other others n f cs (grind (arith, nat_tests))) refl

ready_under : (reach : Reach) (g : Children → Children) (o : Option Space) → is_whole reach ≡ false → is_ready reach (option_map (under g) o) ≡ is_ready reach o
ready_under Whole g o un = absurd (true≢false un)
ready_under Itself g None un = refl
ready_under Itself g (Some (space t cs)) un = refl

-- nor by what is below a child that is awaited itself
ready_below : (as' : List Await) (n : ℕ) (g : Children → Children) (cs : Children) → is_awaited_whole n as' ≡ false
    → are_ready as' (over n (under g) cs) ≡ are_ready as' cs
ready_below [] n g cs un = refl
ready_below (a ∷ others) n g cs un = go (ready_below others n g cs (grind (arith, nat_tests))) (cases_eq n a.number)
  where
    go : are_ready others (over n (under g) cs) ≡ are_ready others cs → (n ≡ a.number) ⊎ (n ≡ a.number → ⊥)
        → are_ready (a ∷ others) (over n (under g) cs) ≡ are_ready (a ∷ others) cs
    go rec (inl e) = let w : is_whole a.reach ≡ false = grind (arith, nat_tests) in rw (rec, e, find-over_same a.number (under g) cs, ready_under a.reach g (find a.number cs) w) refl
    go rec (inr ne) = let ne' : a.number ≢ n = λ x. ne (sym x) in rw (rec, find-over_other a.number n (under g) cs ne') refl

-- an event of a space and one at a path below its child pass one another
abbrev PassesChild : NextEvent → ℕ → List ℕ → ℕ → Top → Children → Type 0
PassesChild x n q levels t cs =
    (may_happen x (over n (step q (pred levels)) cs) ≡ true)
    × (on_child (is_enabled q (pred levels)) (find n (children_of (event levels x (space t cs)))) ≡ true)
    × (event levels x (space t (over n (step q (pred levels)) cs)) ≡ under (over n (step q (pred levels))) (event levels x (space t cs)))

passes_other : (k : Call) (u t : Top) (n : ℕ) (q : List ℕ) (levels : ℕ) (cs : Children) (c : Space)
    → is_awaited n (awaits k) ≡ false → are_ready (awaits k) cs ≡ true → find n cs ≡ Some c → is_enabled q (pred levels) c ≡ true → PassesChild (meets k u) n q levels t cs
passes_other k u t n q levels cs c un r is may = (
  ready_other (awaits k) n (step q (pred levels)) cs un ∙ r,
  ap (on_child (is_enabled q (pred levels))) (find-meet_other levels k u n cs un ∙ is) ∙ may,
  meet_other levels k u n (step q (pred levels)) cs un,
)

-- an event of the child itself: the call does not await it, since it runs
call_passes_itself : (k : Call) (u t : Top) (n : ℕ) (levels : ℕ) (cs : Children) (c : Space) → are_ready (awaits k) cs ≡ true → find n cs ≡ Some c
    → is_enabled [] (pred levels) c ≡ true → PassesChild (meets k u) n [] levels t cs
call_passes_itself k u t n levels cs (space v ds) r is may = go (is_awaited n (awaits k)) refl
  where
    go : (b : Bool) → is_awaited n (awaits k) ≡ b → PassesChild (meets k u) n [] levels t cs
    go false un = passes_other k u t n [] levels cs (space v ds) un r is may
    go true named = absurd (stopped_waits (pred levels) v ds (awaited_stopped (awaits k) n cs (space v ds) named r is) may)

-- one below the child: the call does not await it whole, since it is not settled
call_passes_below : (k : Call) (u t : Top) (n m : ℕ) (q : List ℕ) (levels : ℕ) (cs : Children) (c : Space) → are_ready (awaits k) cs ≡ true
    → find n cs ≡ Some c → is_enabled (m ∷ q) (pred levels) c ≡ true
    → PassesChild (meets k u) n (m ∷ q) levels t cs
call_passes_below k u t n m q levels cs c r is may = go (is_awaited_whole n (awaits k)) refl
  where
    go : (b : Bool) → is_awaited_whole n (awaits k) ≡ b → PassesChild (meets k u) n (m ∷ q) levels t cs
    go true named = absurd (settled_rests (m ∷ q) (pred levels) c (awaited_settled (awaits k) n cs c named r is) may)
    go false un =
        let g = over m (step q (pred (pred levels))) in
        let b = meet_below levels k u n g cs c un is in (
          ready_below (awaits k) n g cs un ∙ r,
          ap (on_child (is_enabled (m ∷ q) (pred levels))) b.1.1 ∙ ap (λ ds. on_child (is_enabled q (pred (pred levels))) (find m ds)) b.1.2 ∙ may,
          b.0,
        )

event_passes : (x : NextEvent) (t : Top) (n : ℕ) (q : List ℕ) (levels : ℕ) (cs : Children) (c : Space) → may_happen x cs ≡ true → find n cs ≡ Some c
    → is_enabled q (pred levels) c ≡ true → PassesChild x n q levels t cs
event_passes rests t n q levels cs c r is may = absurd (true≢false (sym r))
event_passes (moves u) t n q levels cs c r is may = (refl, ap (on_child (is_enabled q (pred levels))) is ∙ may, refl)
event_passes (meets k u) t n [] levels cs c r is may = call_passes_itself k u t n levels cs c r is may
event_passes (meets k u) t n (m ∷ q) levels cs c r is may = call_passes_below k u t n m q levels cs c r is may

-- each of two events may still happen after the other, and in both orders they lead to one tree
abbrev pub PassOneAnother : List ℕ → List ℕ → ℕ → Space → Type 0
PassOneAnother p q levels s =
    (is_enabled p levels (step q levels s) ≡ true)
    × (is_enabled q levels (step p levels s) ≡ true)
    × (step p levels (step q levels s) ≡ step q levels (step p levels s))

-- at paths below different children
apart : (n : ℕ) (p : List ℕ) (m : ℕ) (q : List ℕ) (levels : ℕ) (t : Top) (cs : Children) → n ≢ m → is_enabled (n ∷ p) levels (space t cs) ≡ true
    → is_enabled (m ∷ q) levels (space t cs) ≡ true → PassOneAnother (n ∷ p) (m ∷ q) levels (space t cs)
apart n p m q levels t cs ne a b =
    let ne' : m ≢ n = λ e. ne (sym e) in (
      ap (on_child (is_enabled p (pred levels))) (find-over_other n m (step q (pred levels)) cs ne) ∙ a,
      ap (on_child (is_enabled q (pred levels))) (find-over_other m n (step p (pred levels)) cs ne') ∙ b,
      ap (space t) (over-over_other n m (step p (pred levels)) (step q (pred levels)) cs ne),
    )

-- at paths below one child
together : (n : ℕ) (p q : List ℕ) (levels : ℕ) (t : Top) (cs : Children) (c : Space) → find n cs ≡ Some c → PassOneAnother p q (pred levels) c
    → PassOneAnother (n ∷ p) (n ∷ q) levels (space t cs)
together n p q levels t cs c is d = (
  ap (on_child (is_enabled p (pred levels))) (find-over_same n (step q (pred levels)) cs ∙ ap (option_map (step q (pred levels))) is) ∙ d.0,
  ap (on_child (is_enabled q (pred levels))) (find-over_same n (step p (pred levels)) cs ∙ ap (option_map (step p (pred levels))) is) ∙ d.1,
  ap (space t) (over-over_same n (step p (pred levels)) (step q (pred levels)) cs
      ∙ over-at n (λ x. step p (pred levels) (step q (pred levels) x)) (λ x. step q (pred levels) (step p (pred levels) x)) c cs is d.2
      ∙ sym (over-over_same n (step q (pred levels)) (step p (pred levels)) cs)),
)

pub pass_one_another : (p q : List ℕ) (levels : ℕ) (s : Space) → p ≢ q → is_enabled p levels s ≡ true → is_enabled q levels s ≡ true
    → PassOneAnother p q levels s
pass_one_another [] [] levels s ne a b = absurd (ne refl)
pass_one_another [] (n ∷ q) levels (space t cs) ne a b =
    let c = child_there (is_enabled q (pred levels)) (find n cs) b in
    let r = event_passes (next levels t) t n q levels cs c.0 a c.1 c.2 in
    (r.0, r.1, r.2)
pass_one_another (n ∷ p) [] levels (space t cs) ne a b =
    let c = child_there (is_enabled p (pred levels)) (find n cs) a in
    let r = event_passes (next levels t) t n p levels cs c.0 b c.1 c.2 in
    (r.1, r.0, sym r.2)
pass_one_another (n ∷ p) (m ∷ q) levels (space t cs) ne a b =
    let c = child_there (is_enabled p (pred levels)) (find n cs) a in
    by_number (cases_eq n m) (λ e.
    let at : find m cs ≡ Some c.0 = ap (λ j. find j cs) (sym e) ∙ c.1 in
    let b' : is_enabled q (pred levels) c.0 ≡ true = ap (on_child (is_enabled q (pred levels))) (sym at) ∙ b in
    let P : ℕ → Type 0 = λ j. PassOneAnother (n ∷ p) (j ∷ q) levels (space t cs) in
    let ne' : p ≢ q = λ x. ne (ap₂ (λ i is. i ∷ is) e x) in
    subst P e (together n p q levels t cs c.0 c.1 (pass_one_another p q (pred levels) c.0 ne' c.2 b')))
  where
    by_number : (n ≡ m) ⊎ (n ≡ m → ⊥) → ((n ≡ m) → PassOneAnother (n ∷ p) (m ∷ q) levels (space t cs)) → PassOneAnother (n ∷ p) (m ∷ q) levels (space t cs)
    by_number (inl e) same = same e
    by_number (inr ne') same = apart n p m q levels t cs ne' a b
