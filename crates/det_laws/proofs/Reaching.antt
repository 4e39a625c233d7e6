-- What a space runs or settles to is reached by events that may happen, as many as its meaning counts.
use Rattle.std.proofs.Common.{◌≡◌, ℕ, zero, suc, pred, ◌≤◌, Bool, true, false, cond, List, [], ◌∷◌, Option, Some, None, refl, sym, ◌∙◌, ap, arith, inl, inr, ◌⊎◌, subst}
use Rattle.std.proofs.lemmas.Bool.{cases_eq, and_from}
use Rattle.std.specs.Prelude.{option_map}
use Rattle.space_model.specs.declared.Reach.{Reach}
use Rattle.space_model.specs.declared.Reach.TheVariants.{Itself, Whole}
use Rattle.space_model.specs.declared.Await.{Await}
use Rattle.space_model.specs.Stop.{is_stopped}
use Rattle.space_model.specs.Space.{Top, Space, space, Children, top_of, find, over, is_settled}
use Rattle.space_model.specs.Sound.{IsSoundAt, AreSound}
use Rattle.space_model.specs.Event.{NextEvent, rests, moves, meets, next}
use Rattle.space_model.specs.Meeting.{awaits, meet}
use Rattle.space_model.proofs.Children.{find-over_same, find-over_other}
use Rattle.space_model.proofs.Sound.{no_child, found_sound, over_found_sound}
use Rattle.space_model.proofs.Next.{next_sound}
use Rattle.run_model.specs.Schedule.{is_ready, are_ready, is_enabled, step, try_step}
use Rattle.run_model.specs.Replay.{replay}
use Rattle.run_model.specs.Demand.{Ran, Waited, Meaning, wait_for_child, wait_for, go_on, run_for, everyone, finish, no_events, meaning, settle, work}
use Rattle.run_model.proofs.Run.{run-stops}
use Rattle.run_model.proofs.Settled.{settle-settled}
use Rattle.run_model.proofs.Sound.{next_meets_sound, run_for_sound, meaning_sound, step_sound, try_step_sound}
use Rattle.det_laws.proofs.Commutes.{settled_stopped}
use Rattle.det_laws.specs.Leads.{Leads, Reaches}
use Rattle.det_laws.proofs.Leading.{stays, goes_on, begins, child_reaches, settled_stays, bring_forward, one_end}

-- what becomes of a child that is awaited: it is sound and ready, and reached by so many events
pub record IsReached (levels fuel : ℕ) (reach : Reach) (c : Space) (r : Ran) : Type 0 where
  pub reached : Reaches levels c r.events r.space
  pub ready : is_ready reach (Some r.space) ≡ true
  pub sound : IsSoundAt levels false fuel r.space

-- of every child of a space with so many levels left below it
abbrev pub ReachesAll : ℕ → ℕ → Meaning → Type 0
ReachesAll levels fuel f = (reach : Reach) (c : Space) → 1 ≤ levels → IsSoundAt (pred levels) false fuel c → IsReached (pred levels) fuel reach c (f reach c)

-- where a child is there, a level is left for it
level_left : (levels fuel n : ℕ) (cs : Children) (c : Space) → AreSound levels fuel 0 cs → find n cs ≡ Some c → 1 ≤ levels
level_left zero fuel n cs c ok is = let none = no_child fuel 0 n cs ok in cc
level_left (suc levels) fuel n cs c ok is = omega arith

found_reached : (levels fuel n : ℕ) (f : Meaning) (reach : Reach) (cs : Children) (c : Space) → ReachesAll levels fuel f → AreSound levels fuel 0 cs
    → find n cs ≡ Some c → IsReached (pred levels) fuel reach c (f reach c)
found_reached levels fuel n f reach cs c all ok is = all reach c (level_left levels fuel n cs c ok is) (found_sound levels fuel n cs ok c is)

-- children that have been waited for
record HaveWaited (levels fuel : ℕ) (as' : List Await) (t : Top) (cs : Children) (w : Waited) : Type 0 where
  reached : Reaches levels (space t cs) w.events (space t w.children)
  ready : are_ready as' w.children ≡ true
  sound : AreSound levels fuel 0 w.children

-- one of them
record HasWaited (levels fuel : ℕ) (a : Await) (t : Top) (cs : Children) (w : Waited) : Type 0 where
  reached : Reaches levels (space t cs) w.events (space t w.children)
  ready : is_ready a.reach (find a.number w.children) ≡ true
  sound : AreSound levels fuel 0 w.children

child_waited : (levels fuel : ℕ) (f : Meaning) (a : Await) (t : Top) (cs : Children) (o : Option Space) → ReachesAll levels fuel f
    → AreSound levels fuel 0 cs → find a.number cs ≡ o → HasWaited levels fuel a t cs (wait_for_child f a cs o)
child_waited levels fuel f a t cs None all ok is = record { reached = stays levels (space t cs); ready = ap (is_ready a.reach) is; sound = ok }
child_waited levels fuel f a t cs (Some c) all ok is =
    let g = found_reached levels fuel a.number f a.reach cs c all ok is in
    let r = (f a.reach c).space in
    record {
      reached = child_reaches levels a.number t cs c r (f a.reach c).events is g.reached;
      ready = ap (is_ready a.reach) (find-over_same a.number (λ d. r) cs ∙ ap (option_map (λ d. r)) is) ∙ g.ready;
      sound = over_found_sound levels fuel 0 a.number (λ d. r) c cs ok is g.sound;
    }

-- a child that was ready before stays so, though it is waited for once more
ready_again : (levels fuel : ℕ) (v reach : Reach) (c : Space) (r : Ran) → IsReached levels fuel reach c r → is_ready v (Some c) ≡ true
    → is_ready v (Some r.space) ≡ true
ready_again levels fuel Itself reach c r g h = stopped_now reach r.space g.ready
  where
    stopped_now : (reach : Reach) (d : Space) → is_ready reach (Some d) ≡ true → is_stopped (top_of d).status ≡ true
    stopped_now Itself d h = h
    stopped_now Whole d h = settled_stopped d h
ready_again levels fuel Whole reach c r g h = ap is_settled (sym (settled_stays levels g.reached.0 c r.space h g.reached.2)) ∙ h

child_keeps : (levels fuel : ℕ) (f : Meaning) (a : Await) (cs : Children) (o : Option Space) → ReachesAll levels fuel f → AreSound levels fuel 0 cs
    → find a.number cs ≡ o
    → (v : Reach) (m : ℕ) → is_ready v (find m cs) ≡ true → is_ready v (find m (wait_for_child f a cs o).children) ≡ true
child_keeps levels fuel f a cs None all ok is v m r = r
child_keeps levels fuel f a cs (Some c) all ok is v m r = go (cases_eq m a.number)
  where
    go : (m ≡ a.number) ⊎ (m ≡ a.number → ⊥) → is_ready v (find m (over a.number (λ d. (f a.reach c).space) cs)) ≡ true
    go (inr ne) = ap (is_ready v) (find-over_other m a.number (λ d. (f a.reach c).space) cs ne) ∙ r
    go (inl e) =
        let before : is_ready v (Some c) ≡ true = ap (is_ready v) (sym (ap (λ j. find j cs) e ∙ is)) ∙ r in
        let found = find-over_same a.number (λ d. (f a.reach c).space) cs ∙ ap (option_map (λ d. (f a.reach c).space)) is in
        ap (λ j. is_ready v (find j (over a.number (λ d. (f a.reach c).space) cs))) e ∙ ap (is_ready v) found
        ∙ ready_again (pred levels) fuel v a.reach c (f a.reach c) (found_reached levels fuel a.number f a.reach cs c all ok is) before

others_keep : (levels fuel : ℕ) (f : Meaning) (others : List Await) (t : Top) (cs : Children) → ReachesAll levels fuel f → AreSound levels fuel 0 cs
    → (v : Reach) (m : ℕ) → is_ready v (find m cs) ≡ true → is_ready v (find m (wait_for f others cs).children) ≡ true
others_keep levels fuel f [] t cs all ok v m r = r
others_keep levels fuel f (a ∷ others) t cs all ok v m r =
    others_keep levels fuel f others t (wait_for_child f a cs (find a.number cs)).children all
    (child_waited levels fuel f a t cs (find a.number cs) all ok refl).sound v m
    (child_keeps levels fuel f a cs (find a.number cs) all ok refl v m r)

have_waited : (levels fuel : ℕ) (f : Meaning) → ReachesAll levels fuel f → (as' : List Await) (t : Top) (cs : Children) → AreSound levels fuel 0 cs
    → HaveWaited levels fuel as' t cs (wait_for f as' cs)
have_waited levels fuel f all [] t cs ok = record { reached = stays levels (space t cs); ready = refl; sound = ok }
have_waited levels fuel f all (a ∷ others) t cs ok =
    let first = wait_for_child f a cs (find a.number cs) in
    let one = child_waited levels fuel f a t cs (find a.number cs) all ok refl in
    let rest = have_waited levels fuel f all others t first.children one.sound in
    record {
      reached = goes_on levels (space t cs) (space t first.children) _ first.events _ one.reached rest.reached;
      ready = and_from _ _ (others_keep levels fuel f others t first.children all one.sound a.reach a.number one.ready) rest.ready;
      sound = rest.sound;
    }

-- each turn of a run is an event, behind those of the children that it waits for
turn_reached : (levels : ℕ) (root : Bool) (fuel n : ℕ) (f : Meaning) (x : NextEvent) (t : Top) (cs : Children) → ReachesAll levels fuel f
    → next levels t ≡ x → IsSoundAt levels root fuel (space t cs)
    → ((s : Space) → IsSoundAt levels root fuel s → Reaches levels s (run_for f levels n s).events (run_for f levels n s).space)
    → Reaches levels (space t cs) (go_on levels x (space t cs) f (run_for f levels n)).events (go_on levels x (space t cs) f (run_for f levels n)).space
turn_reached levels root fuel n f rests t cs all is ok rec = stays levels (space t cs)
turn_reached levels root fuel n f (moves u) t cs all is ok rec =
    let after = rec (space u cs) (next_sound levels fuel root t u is ok.0, ok.1) in
    begins levels (space t cs) (space u cs) _ _ (rw is refl) (rw is refl) after
turn_reached levels root fuel n f (meets k u) t cs all is ok rec =
    let w = have_waited levels fuel f all (awaits k) t cs ok.1 in
    let ds = (wait_for f (awaits k) cs).children in
    let after = rec (meet levels k u ds) (next_meets_sound levels root fuel t u k ds is ok.0 w.sound) in
    let called = begins levels (space t ds) (meet levels k u ds) _ _ (rw is w.ready) (rw is refl) after in
    let whole = goes_on levels (space t cs) (space t ds) _ (wait_for f (awaits k) cs).events _ w.reached called in
    (whole.0, (let e = whole.1 in omega (arith, e)), whole.2)

run_reached : (levels : ℕ) (root : Bool) (fuel n : ℕ) (f : Meaning) → ReachesAll levels fuel f → (s : Space) → IsSoundAt levels root fuel s
    → Reaches levels s (run_for f levels n s).events (run_for f levels n s).space
unfolding run_for
run_reached levels root fuel zero f all s ok = stays levels s
run_reached levels root fuel (suc n) f all (space t cs) ok = turn_reached levels root fuel n f (next levels t) t cs all refl ok (λ s h. run_reached levels root fuel n f all s h)

children_reached : (levels : ℕ) (root : Bool) (fuel : ℕ) (f : Meaning) (s : Space) (r : Ran) → ReachesAll levels fuel f
    → Reaches levels s r.events r.space → IsSoundAt levels root fuel r.space
    → Reaches levels s (finish Whole f r).events (finish Whole f r).space
children_reached levels root fuel f s r all here ok = go r.space refl
  where
    go : (x : Space) → r.space ≡ x → Reaches levels s (finish Whole f r).events (finish Whole f r).space
    go (space t cs) is =
        let w = have_waited levels fuel f all (everyone cs) t cs (subst (IsSoundAt levels root fuel) is ok).1 in
        rw is (goes_on levels s (space t cs) _ r.events _ (subst (λ x. Reaches levels s r.events x) is here) w.reached)

finish_reached : (levels : ℕ) (root : Bool) (fuel : ℕ) (reach : Reach) (f : Meaning) (s : Space) (r : Ran) → ReachesAll levels fuel f
    → Reaches levels s r.events r.space → IsSoundAt levels root fuel r.space
    → Reaches levels s (finish reach f r).events (finish reach f r).space
finish_reached levels root fuel Itself f s r all here ok = here
finish_reached levels root fuel Whole f s r all here ok = children_reached levels root fuel f s r all here ok

-- then it is ready
meaning_ready : (levels : ℕ) (reach : Reach) (root : Bool) (fuel : ℕ) (s : Space) → IsSoundAt levels root fuel s
    → is_ready reach (Some (meaning levels reach s).space) ≡ true
meaning_ready levels Itself root fuel s ok = run-stops levels s
meaning_ready levels Whole root fuel s ok = settle-settled levels root fuel s ok

none_reached : (fuel : ℕ) (f : Meaning) → ReachesAll zero fuel f
none_reached fuel f reach c some ok = absurd (omega arith)

each_reached : (levels fuel : ℕ)
    → ((reach : Reach) (c : Space) → IsSoundAt levels false fuel c → Reaches levels c (meaning levels reach c).events (meaning levels reach c).space)
    → ReachesAll (suc levels) fuel (meaning levels)
each_reached levels fuel each reach c some ok = record { reached = each reach c ok; ready = meaning_ready levels reach false fuel c ok; sound = meaning_sound levels reach false fuel c ok }

pub meaning_reached : (levels : ℕ) (reach : Reach) (root : Bool) (fuel : ℕ) (s : Space) → IsSoundAt levels root fuel s
    → Reaches levels s (meaning levels reach s).events (meaning levels reach s).space
unfolding meaning
meaning_reached zero reach root fuel s ok =
    let all = none_reached fuel no_events in
    finish_reached zero root fuel reach no_events s _ all (run_reached zero root fuel (suc (top_of s).fuel) no_events all s ok)
    (run_for_sound no_events zero root fuel (suc (top_of s).fuel) s (λ reach c h. h) ok)
meaning_reached (suc levels) reach root fuel s ok =
    let all = each_reached levels fuel (λ reach c h. meaning_reached levels reach false fuel c h) in
    finish_reached (suc levels) root fuel reach (meaning levels) s _ all (run_reached (suc levels) root fuel (suc (top_of s).fuel) (meaning levels) all s ok)
    (run_for_sound (meaning levels) (suc levels) root fuel (suc (top_of s).fuel) s (λ reach c h. meaning_sound levels reach false fuel c h) ok)

-- an event that may happen changes no end, and is one of its events
pub event_counts : (p : List ℕ) (levels : ℕ) (root : Bool) (fuel : ℕ) (s : Space) → IsSoundAt levels root fuel s → is_enabled p levels s ≡ true
    → (settle levels (step p levels s) ≡ settle levels s) × (work levels s ≡ suc (work levels (step p levels s)))
event_counts p levels root fuel s ok may =
    let a = meaning_reached levels Whole root fuel s ok in
    let still = settle-settled levels root fuel s ok in
    let ok' = step_sound p levels root fuel s ok in
    let b = meaning_reached levels Whole root fuel (step p levels s) ok' in
    let still' = settle-settled levels root fuel (step p levels s) ok' in
    let f = bring_forward levels a.0 p s (settle levels s) a.2 still may in
    let e = one_end levels b.0 f.0 (step p levels s) (settle levels s) (settle levels (step p levels s)) f.2 still b.2 still' in
    (sym e.0, sym a.1 ∙ f.1 ∙ ap suc (e.1 ∙ b.1))

try_settles : (p : List ℕ) (levels : ℕ) (root : Bool) (fuel : ℕ) (s : Space) → IsSoundAt levels root fuel s
    → settle levels (try_step p levels s) ≡ settle levels s
try_settles p levels root fuel s ok = go (is_enabled p levels s) refl
  where
    go : (b : Bool) → is_enabled p levels s ≡ b → settle levels (cond b (step p levels s) s) ≡ settle levels s
    go true may = (event_counts p levels root fuel s ok may).0
    go false may = refl

-- what a tree settles to is the same before and after any schedule
pub replay_settles : (ps : List (List ℕ)) (levels : ℕ) (root : Bool) (fuel : ℕ) (s : Space) → IsSoundAt levels root fuel s
    → settle levels (replay ps levels s) ≡ settle levels s
replay_settles [] levels root fuel s ok = refl
replay_settles (p ∷ ps) levels root fuel s ok =
    replay_settles ps levels root fuel (try_step p levels s) (try_step_sound p levels root fuel s ok) ∙ try_settles p levels root fuel s ok

-- a tree that is not settled may go on
pub never_stuck : (levels : ℕ) (root : Bool) (fuel : ℕ) (s : Space) → IsSoundAt levels root fuel s → (is_settled s ≡ true → ⊥)
    → (p : List ℕ) × (is_enabled p levels s ≡ true)
never_stuck levels root fuel s ok busy = let a = meaning_reached levels Whole root fuel s ok in go a.0 a.2 (settle-settled levels root fuel s ok)
  where
    go : (ps : List (List ℕ)) → Leads levels ps s (settle levels s) → is_settled (settle levels s) ≡ true → (p : List ℕ) × (is_enabled p levels s ≡ true)
    go [] a still = absurd (busy (ap is_settled a ∙ still))
    go (p ∷ ps) a still = (p, a.0)
