-- A turn of a space as a schedule: its local events, and the call that is next, once what it waits for is ready.
use Rattle.std.proofs.Common.{◌≡◌, ℕ, zero, suc, ◌+◌, ◌≤◌, ◌<◌, true, false, List, [], ◌∷◌, ◌++◌, length, length-append, Option, Some, refl, sym, ap, ◌∙◌, subst, arith}
use Rattle.call_model.specs.declared.Call.{Call}
use Rattle.space_model.specs.Space.{Top, Space, space, Children, top_of, children_of}
use Rattle.space_model.specs.Sound.{IsSoundAt}
use Rattle.space_model.specs.Change.{after_payment}
use Rattle.space_model.specs.Call.{seen_of}
use Rattle.space_model.specs.Meeting.{awaits, meet}
use Rattle.space_model.specs.Event.{next, rests, moves, meets, Follows}
use Rattle.space_step.specs.declared.event.Next.{Next}
use Rattle.space_step.specs.declared.event.Next.TheVariants as answers
use Rattle.space_step.specs.Running.{Ended}
use Rattle.run_model.specs.Schedule.{are_ready}
use Rattle.run_model.specs.Demand.{wait_for, of_children}
use Rattle.run_model.proofs.Fuel.{rests_stopped}
use Rattle.run_model.proofs.Sound.{replay_sound}
use Rattle.demand_eval.specs.Turns.{IsSoundBelow, with_awaited}
use Rattle.demand_eval.proofs.Turns.{advanced, advanced_sound, advanced_then, met}
use Rattle.event_laws.specs.OwnEvents.{OwnEvent}
use Rattle.explain_core.specs.Going.{GoesBy, StartsWith, EndsWith, BelowStopped, TakesTurn}
use Rattle.explain_core.proofs.Schedules.{goes_then, stays}
use Rattle.explain_core.proofs.Awaiting.{all_waited}

-- a schedule keeps a space sound
pub goes_sound : (levels : ℕ) (p : List ℕ) (own : List OwnEvent) (s now : Space) → GoesBy levels p own s now → IsSoundBelow levels s → IsSoundBelow levels now
goes_sound levels p own s now a ok = record { root = ok.root; fuel = ok.fuel; sound = subst (IsSoundAt levels ok.root ok.fuel) a.leads (replay_sound a.schedule levels ok.root ok.fuel s ok.sound) }

-- behind others the last one is the last
pub ends_append : (xs ys : List OwnEvent) (o : Option Top) → 1 ≤ length ys → EndsWith ys o → EndsWith (xs ++ ys) o
ends_append [] ys o some last = last
ends_append (x ∷ xs) ys o some last = go (xs ++ ys) refl (ends_append xs ys o some last)
  where
    go : (zs : List OwnEvent) → xs ++ ys ≡ zs → EndsWith (xs ++ ys) o → EndsWith (x ∷ zs) o
    go [] none later = let long = sym (length-append xs ys) ∙ ap length none in absurd (omega (arith, long, some))
    go (z ∷ zs) is later = subst (λ vs. EndsWith vs o) is later

-- before others the first one is the first
pub starts_append : (xs ys : List OwnEvent) (t : Top) → StartsWith xs t → (length xs ≡ 0 → StartsWith ys t) → StartsWith (xs ++ ys) t
starts_append [] ys t first other = other refl
starts_append (x ∷ xs) ys t first other = first

-- one local event
pub local_event : (levels : ℕ) (t v : Top) (cs : Children) → next levels t ≡ moves v → GoesBy levels [] (record { before = t; sees = []; after = v } ∷ []) (space t cs) (space v cs)
local_event levels t v cs is = record { schedule = [] ∷ []; leads = rw is refl; events = rw is refl }

local_below : (levels : ℕ) (n : ℕ) (p : List ℕ) (t v : Top) (cs : Children) → next levels t ≡ moves v → GoesBy levels (n ∷ p) [] (space t cs) (space v cs)
local_below levels n p t v cs is = record { schedule = [] ∷ []; leads = rw is refl; events = refl }

-- no event leaves a top as it is
none_before : (levels n : ℕ) (t u : Top) → Follows levels n t u → n ≡ 0 → u ≡ t
none_before levels zero t u is none = is
none_before levels (suc n) t u is none = absurd (omega (arith, none))

-- so many local events are so many own events
record OwnLocal (levels n : ℕ) (t u : Top) (cs : Children) : Type 0 where
  own : List OwnEvent
  goes : GoesBy levels [] own (space t cs) (space u cs)
  count : length own ≡ n
  first : StartsWith own t
  last : EndsWith own (Some u)

own_local : (levels n : ℕ) (t u : Top) (cs : Children) → Follows levels n t u → OwnLocal levels n t u cs
own_local levels zero t u cs is = record { own = []; goes = subst (λ v. GoesBy levels [] [] (space t cs) (space v cs)) (sym is) (stays levels [] (space t cs)); count = refl; first = tt; last = tt }
own_local levels (suc n) t u cs is =
    let e : OwnEvent = record { before = t; sees = []; after = is.0 } in
    let rest = own_local levels n is.0 u cs is.2 in
    record {
      own = e ∷ rest.own;
      goes = goes_then levels [] (e ∷ []) rest.own (space t cs) (space is.0 cs) (space u cs) (local_event levels t is.0 cs is.1) rest.goes;
      count = ap suc rest.count;
      first = refl;
      last = go e n is.0 is.2 rest.own rest.count refl rest.last;
    }
  where
    go : (e : OwnEvent) (n : ℕ) (v : Top) → Follows levels n v u → (xs : List OwnEvent) → length xs ≡ n → v ≡ e.after → EndsWith xs (Some u) → EndsWith (e ∷ xs) (Some u)
    go e zero v same [] count here last = ap Some (same ∙ here)
    go e (suc n) v same [] count here last = absurd (omega (arith, count))
    go e n v same (x ∷ xs) count here last = last

pub follows_below : (levels k n : ℕ) (p : List ℕ) (t u : Top) (cs : Children) → Follows levels k t u → GoesBy levels (n ∷ p) [] (space t cs) (space u cs)
follows_below levels zero n p t u cs is = subst (λ v. GoesBy levels (n ∷ p) [] (space t cs) (space v cs)) (sym is) (stays levels (n ∷ p) (space t cs))
follows_below levels (suc k) n p t u cs is =
    goes_then levels (n ∷ p) [] [] (space t cs) (space is.0 cs) (space u cs) (local_below levels n p t is.0 cs is.1) (follows_below levels k n p is.0 u cs is.2)

-- the call that is next
meeting : (levels : ℕ) (k : Call) (t : Top) (ds : Children) → next levels t ≡ meets k (after_payment t t) → are_ready (awaits k) ds ≡ true
    → GoesBy levels [] (record { before = t; sees = seen_of (awaits k) ds; after = top_of (meet levels k (after_payment t t) ds) } ∷ []) (space t ds) (meet levels k (after_payment t t) ds)
meeting levels k t ds is ready = record { schedule = [] ∷ []; leads = rw (is, ready) refl; events = rw (is, ready) refl }

meeting_below : (levels : ℕ) (k : Call) (n : ℕ) (p : List ℕ) (t : Top) (ds : Children) → next levels t ≡ meets k (after_payment t t) → are_ready (awaits k) ds ≡ true
    → GoesBy levels (n ∷ p) [] (space t ds) (meet levels k (after_payment t t) ds)
meeting_below levels k n p t ds is ready = record { schedule = [] ∷ []; leads = rw (is, ready) refl; events = refl }

-- fewer than there might be, where a call is next, or nothing
pub few_met : (levels quantum ran : ℕ) (o : Option Next) (k : Call) (t : Top) → Ended levels quantum ran o t → o ≡ Some (answers.Meet k) → ran < quantum
few_met levels quantum ran o k t h e = (subst (λ (q : Option Next). Ended levels quantum ran q t) e h).0

pub few_stopped : (levels quantum ran : ℕ) (o : Option Next) (t : Top) → Ended levels quantum ran o t → o ≡ Some answers.Stopped → ran < quantum
few_stopped levels quantum ran o t h e = (subst (λ (q : Option Next). Ended levels quantum ran q t) e h).0

-- local events alone
pub turn_local : (levels most ran : ℕ) (t u : Top) (cs : Children) (s : Space) → IsSoundBelow levels s → space t cs ≡ s → Follows levels ran t u → 1 ≤ most → ran ≡ most
    → TakesTurn levels most (record { events = ran; stopped = false }) s (space u cs)
turn_local levels most ran t u cs s ok is follows some all =
    let l = own_local levels ran t u cs follows in
    let on = advanced levels ran t u cs s ok is follows (omega (arith, some, all)) in
    record {
      own = l.own;
      itself = subst (λ r. GoesBy levels [] l.own r (space u cs)) is l.goes;
      count = l.count;
      within = omega (arith, all);
      first = subst (λ v. StartsWith l.own (top_of v)) is l.first;
      last = l.last;
      below = λ n p still. subst (λ r. GoesBy levels (n ∷ p) [] r (space u cs)) is (follows_below levels ran n p t u cs follows);
      fewer = λ e. on.fewer;
      stopped = λ e. cc;
    }

-- and then none any more
pub turn_stopped : (levels most ran : ℕ) (t u : Top) (cs : Children) (s : Space) → space t cs ≡ s → Follows levels ran t u → ran < most → next levels u ≡ rests
    → TakesTurn levels most (record { events = ran; stopped = true }) s (space u cs)
turn_stopped levels most ran t u cs s is follows few ends =
    let l = own_local levels ran t u cs follows in
    record {
      own = l.own;
      itself = subst (λ r. GoesBy levels [] l.own r (space u cs)) is l.goes;
      count = l.count;
      within = omega (arith, few);
      first = subst (λ v. StartsWith l.own (top_of v)) is l.first;
      last = l.last;
      below = λ n p still. subst (λ r. GoesBy levels (n ∷ p) [] r (space u cs)) is (follows_below levels ran n p t u cs follows);
      fewer = λ e. cc;
      stopped = λ e. (rests_stopped levels u ends, ap children_of is);
    }

-- and then a call
pub turn_met : (levels most ran : ℕ) (k : Call) (t u : Top) (cs : Children) (s w r : Space) → IsSoundBelow levels s → space t cs ≡ s → Follows levels ran t u → ran < most
    → next levels u ≡ meets k (after_payment u u) → w ≡ with_awaited levels k (space u cs) → r ≡ meet levels k (after_payment (top_of w) (top_of w)) (children_of w)
    → TakesTurn levels most (record { events = ran + 1; stopped = false }) s r
turn_met levels most ran k t u cs s w r ok is follows few calls waited done =
    let ok' = advanced_sound levels ran t u cs s ok is follows in
    let ds = (wait_for (of_children levels) (awaits k) cs).children in
    let all = all_waited levels ok'.fuel (awaits k) u cs ok'.sound.1 in
    let l = own_local levels ran t u cs follows in
    let m = meet levels k (after_payment u u) ds in
    let e : OwnEvent = record { before = u; sees = seen_of (awaits k) ds; after = top_of m } in
    let here : r ≡ m = done ∙ ap (λ v. meet levels k (after_payment (top_of v) (top_of v)) (children_of v)) waited in
    let on = advanced_then levels ran t u cs s r is follows (met levels k (space u cs) w r ok' calls waited done) in
    let called = goes_then levels [] [] (e ∷ []) (space u cs) (space u ds) m all.0.itself (meeting levels k u ds calls all.1) in
    let whole : GoesBy levels [] (l.own ++ e ∷ []) (space t cs) m = goes_then levels [] l.own (e ∷ []) (space t cs) (space u cs) m l.goes called in
    let count = l.count in
    record {
      own = l.own ++ e ∷ [];
      itself = subst (GoesBy levels [] (l.own ++ e ∷ []) s) (sym here) (subst (λ v. GoesBy levels [] (l.own ++ e ∷ []) v m) is whole);
      count = length-append l.own (e ∷ []) ∙ ap (λ n. n + 1) count;
      within = omega (arith, few);
      first = subst (λ v. StartsWith (l.own ++ e ∷ []) (top_of v)) is (starts_append l.own (e ∷ []) t l.first (λ none. none_before levels ran t u follows (sym count ∙ none)));
      last = subst (λ v. EndsWith (l.own ++ e ∷ []) (Some (top_of v))) (sym here) (ends_append l.own (e ∷ []) (Some (top_of m)) (omega arith) refl);
      below = λ n p still. subst (GoesBy levels (n ∷ p) [] s) (sym here) (subst (λ v. GoesBy levels (n ∷ p) [] v m) is
          (goes_then levels (n ∷ p) [] [] (space t cs) (space u cs) m (follows_below levels ran n p t u cs follows)
          (goes_then levels (n ∷ p) [] [] (space u cs) (space u ds) m (all.0.below n p (subst (λ v. BelowStopped (n ∷ p) (children_of v)) (sym is) still)).0 (meeting_below levels k n p u ds calls all.1))));
      fewer = λ x. on.fewer;
      stopped = λ x. cc;
    }
