-- Schedules in parts, and schedules of a child as schedules of its parent: which own events of a path are in them.
use Rattle.std.proofs.Common.{◌≡◌, ℕ, pred, Bool, true, false, List, [], ◌∷◌, ◌++◌, map, Option, Some, None, refl, sym, ap, ap₂, ◌∙◌, arith}
use Rattle.std.proofs.lemmas.Bool.Decides.{nat_tests}
use Rattle.std.specs.Prelude.{option_map, option_and_then, if◌then◌else◌}
use Rattle.space_model.specs.Space.{Top, Space, space, Children, find, over}
use Rattle.space_model.proofs.Children.{find-over_same, over-over_same, over-at, over_itself}
use Rattle.run_model.specs.Schedule.{is_enabled, step, try_step}
use Rattle.run_model.specs.Replay.{replay}
use Rattle.det_laws.specs.Leads.{Leads}
use Rattle.event_laws.specs.OwnEvents.{OwnEvent, own_event_at, is_same_path, and_others, own_events}
use Rattle.explain_core.specs.Going.{own_below, GoesBy}

-- of a whole tree they are its own events
pub whole : (p : List ℕ) (ps : List (List ℕ)) (s : Space) → own_below 8 p ps s ≡ own_events p ps s
whole p [] s = refl
whole p (q ∷ qs) s = ap (and_others (if is_same_path p q then own_event_at p 8 s else None)) (whole p qs (try_step q 8 s))

pub replay_parts : (ps qs : List (List ℕ)) (levels : ℕ) (s : Space) → replay (ps ++ qs) levels s ≡ replay qs levels (replay ps levels s)
replay_parts [] qs levels s = refl
replay_parts (p ∷ ps) qs levels s = replay_parts ps qs levels (try_step p levels s)

before_others : (o : Option OwnEvent) (xs ys : List OwnEvent) → and_others o (xs ++ ys) ≡ and_others o xs ++ ys
before_others None xs ys = refl
before_others (Some e) xs ys = refl

pub own_parts : (levels : ℕ) (p : List ℕ) (ps qs : List (List ℕ)) (s : Space) → own_below levels p (ps ++ qs) s ≡ own_below levels p ps s ++ own_below levels p qs (replay ps levels s)
own_parts levels p [] qs s = refl
own_parts levels p (r ∷ ps) qs s =
    let o = if is_same_path p r then own_event_at p levels s else None in
    let later = try_step r levels s in
    ap (and_others o) (own_parts levels p ps qs later) ∙ before_others o (own_below levels p ps later) (own_below levels p qs (replay ps levels later))

-- one schedule, and then another
pub goes_then : (levels : ℕ) (p : List ℕ) (xs ys : List OwnEvent) (s t u : Space) → GoesBy levels p xs s t → GoesBy levels p ys t u → GoesBy levels p (xs ++ ys) s u
goes_then levels p xs ys s t u a b = record {
  schedule = a.schedule ++ b.schedule;
  leads = replay_parts a.schedule b.schedule levels s ∙ ap (replay b.schedule levels) a.leads ∙ b.leads;
  events = own_parts levels p a.schedule b.schedule s ∙ ap₂ (λ v w. v ++ w) a.events (ap (own_below levels p b.schedule) a.leads ∙ b.events);
}

pub stays : (levels : ℕ) (p : List ℕ) (s : Space) → GoesBy levels p [] s s
stays levels p s = record { schedule = []; leads = refl; events = refl }

-- a list of events each of which may happen is a schedule
pub leads_replay : (ps : List (List ℕ)) (levels : ℕ) (s t : Space) → Leads levels ps s t → replay ps levels s ≡ t
leads_replay [] levels s t is = is
leads_replay (p ∷ ps) levels s t leads = rw leads.0 (leads_replay ps levels (step p levels s) t leads.1)

-- an event of a child is one of its parent
try_below : (levels m : ℕ) (q : List ℕ) (t : Top) (cs : Children) (c : Space) → find m cs ≡ Some c → try_step (m ∷ q) levels (space t cs) ≡ space t (over m (λ d. try_step q (pred levels) c) cs)
try_below levels m q t cs c is = go (is_enabled q (pred levels) c) refl
  where
    go : (b : Bool) → is_enabled q (pred levels) c ≡ b → try_step (m ∷ q) levels (space t cs) ≡ space t (over m (λ d. try_step q (pred levels) c) cs)
    go true may =
        let first : try_step (m ∷ q) levels (space t cs) ≡ space t (over m (step q (pred levels)) cs) = rw (is, may) refl in
        first ∙ ap (space t) (over-at m (step q (pred levels)) (λ d. try_step q (pred levels) c) c cs is (rw may refl))
    go false un =
        let first : try_step (m ∷ q) levels (space t cs) ≡ space t cs = rw (is, un) refl in
        let last : space t (over m (λ d. try_step q (pred levels) c) cs) ≡ space t (over m (λ d. c) cs) = rw un refl in
        first ∙ ap (space t) (sym (over_itself m c cs is)) ∙ sym last

-- what stands there then
pub now_there : (m : ℕ) (d c : Space) (cs : Children) → find m cs ≡ Some c → find m (over m (λ x. d) cs) ≡ Some d
now_there m d c cs is = find-over_same m (λ x. d) cs ∙ ap (option_map (λ x. d)) is

pub replay_below : (qs : List (List ℕ)) (levels m : ℕ) (t : Top) (cs : Children) (c : Space) → find m cs ≡ Some c
    → replay (map (λ q. m ∷ q) qs) levels (space t cs) ≡ space t (over m (λ d. replay qs (pred levels) c) cs)
replay_below [] levels m t cs c is = ap (space t) (sym (over_itself m c cs is))
replay_below (q ∷ qs) levels m t cs c is =
    let d = try_step q (pred levels) c in
    let one = try_below levels m q t cs c is in
    let rest = replay_below qs levels m t (over m (λ x. d) cs) d (now_there m d c cs is) in
    ap (replay (map (λ r. m ∷ r) qs) levels) one ∙ rest ∙ ap (space t) (over-over_same m (λ x. replay qs (pred levels) d) (λ x. d) cs)

same_number : (n : ℕ) (p q : List ℕ) → is_same_path (n ∷ p) (n ∷ q) ≡ is_same_path p q
same_number n p q = grind (arith, nat_tests)

-- the own events of a path below a child are those of the child
pub own_of_child : (qs : List (List ℕ)) (levels n : ℕ) (p : List ℕ) (t : Top) (cs : Children) (c : Space) → find n cs ≡ Some c
    → own_below levels (n ∷ p) (map (λ q. n ∷ q) qs) (space t cs) ≡ own_below (pred levels) p qs c
own_of_child [] levels n p t cs c is = refl
own_of_child (q ∷ qs) levels n p t cs c is =
    let d = try_step q (pred levels) c in
    let event : own_event_at (n ∷ p) levels (space t cs) ≡ own_event_at p (pred levels) c = ap (option_and_then (own_event_at p (pred levels))) is in
    let first : (if is_same_path (n ∷ p) (n ∷ q) then own_event_at (n ∷ p) levels (space t cs) else None) ≡ (if is_same_path p q then own_event_at p (pred levels) c else None) = ap₂ (λ b o. if b then o else None) (same_number n p q) event in
    let rest = ap (own_below levels (n ∷ p) (map (λ r. n ∷ r) qs)) (try_below levels n q t cs c is) ∙ own_of_child qs levels n p t (over n (λ x. d) cs) d (now_there n d c cs is) in
    ap₂ and_others first rest

-- of a path that is not below it there are none
pub own_elsewhere : (qs : List (List ℕ)) (levels m : ℕ) (p : List ℕ) (s : Space) → ((q : List ℕ) → is_same_path p (m ∷ q) ≡ false) → own_below levels p (map (λ q. m ∷ q) qs) s ≡ []
own_elsewhere [] levels m p s apart = refl
own_elsewhere (q ∷ qs) levels m p s apart = rw (apart q) (own_elsewhere qs levels m p (try_step (m ∷ q) levels s) apart)

-- a child goes on, and its parent with it
pub child_goes : (levels n : ℕ) (p : List ℕ) (own : List OwnEvent) (t : Top) (cs : Children) (c d : Space) → find n cs ≡ Some c → GoesBy (pred levels) p own c d
    → GoesBy levels (n ∷ p) own (space t cs) (space t (over n (λ x. d) cs))
child_goes levels n p own t cs c d is a = record {
  schedule = map (λ q. n ∷ q) a.schedule;
  leads = replay_below a.schedule levels n t cs c is ∙ ap (λ x. space t (over n (λ y. x) cs)) a.leads;
  events = own_of_child a.schedule levels n p t cs c is ∙ a.events;
}

-- which has no own event then
pub child_quiet : (levels n : ℕ) (p : List ℕ) (own : List OwnEvent) (t : Top) (cs : Children) (c d : Space) → find n cs ≡ Some c → GoesBy (pred levels) p own c d
    → GoesBy levels [] [] (space t cs) (space t (over n (λ x. d) cs))
child_quiet levels n p own t cs c d is a = record {
  schedule = map (λ q. n ∷ q) a.schedule;
  leads = replay_below a.schedule levels n t cs c is ∙ ap (λ x. space t (over n (λ y. x) cs)) a.leads;
  events = own_elsewhere a.schedule levels n [] (space t cs) (λ q. refl);
}
