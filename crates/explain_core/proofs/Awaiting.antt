-- The children that a call awaits run or settle by a schedule without own events of the space itself, nor of a path below it on which all have stopped; and
-- then the call may happen.
use Rattle.std.proofs.Common.{◌≡◌, ℕ, zero, suc, pred, true, false, List, [], ◌∷◌, map, Option, Some, None, refl, sym, ap, ◌∙◌, subst, arith, inl, inr, ◌⊎◌}
use Rattle.std.proofs.lemmas.Bool.Decides.{nat_tests}
use Rattle.std.proofs.lemmas.Bool.{cases_eq, and_from}
use Rattle.std.specs.Prelude.{IfSome}
use Rattle.space_model.specs.declared.Reach.{Reach}
use Rattle.space_model.specs.declared.Reach.TheVariants.{Itself, Whole}
use Rattle.space_model.specs.declared.Await.{Await}
use Rattle.space_model.specs.Stop.{is_stopped}
use Rattle.space_model.specs.Space.{Top, Space, space, Children, top_of, find, over, is_settled}
use Rattle.space_model.specs.Sound.{IsSoundAt, AreSound}
use Rattle.space_model.proofs.Children.{find-over_other}
use Rattle.space_model.proofs.Sound.{no_child, found_sound, over_found_sound}
use Rattle.run_model.specs.Schedule.{is_ready, are_ready}
use Rattle.run_model.specs.Replay.{replay}
use Rattle.run_model.specs.Demand.{meaning, wait_for_child, wait_for, of_children}
use Rattle.run_model.proofs.Run.{run-stops}
use Rattle.run_model.proofs.Settled.{settle-settled}
use Rattle.run_model.proofs.Sound.{meaning_sound}
use Rattle.det_laws.specs.Leads.{Leads}
use Rattle.det_laws.proofs.Commutes.{settled_stopped}
use Rattle.det_laws.proofs.Leading.{settled_stays}
use Rattle.det_laws.proofs.Reaching.{meaning_reached}
use Rattle.event_laws.specs.OwnEvents.{is_same_path}
use Rattle.explain_core.specs.Going.{own_below, GoesBy, WayStopped, BelowStopped}
use Rattle.explain_core.proofs.Schedules.{goes_then, stays, leads_replay, now_there, replay_below, own_of_child, own_elsewhere}
use Rattle.explain_core.proofs.Stopped.{way_stays, none_own, below_found}

-- a child that is awaited comes to its end by a schedule: it is ready then, and for all that it was ready for before
record Ends (levels fuel : ℕ) (reach : Reach) (c d : Space) : Type 0 where
  schedule : List (List ℕ)
  leads : replay schedule levels c ≡ d
  ready : is_ready reach (Some d) ≡ true
  keeps : (v : Reach) → is_ready v (Some c) ≡ true → is_ready v (Some d) ≡ true
  sound : IsSoundAt levels false fuel d

meaning_ready : (levels : ℕ) (reach : Reach) (fuel : ℕ) (c : Space) → IsSoundAt levels false fuel c → is_ready reach (Some (meaning levels reach c).space) ≡ true
meaning_ready levels Itself fuel c ok = run-stops levels c
meaning_ready levels Whole fuel c ok = settle-settled levels false fuel c ok

stopped_then : (reach : Reach) (d : Space) → is_ready reach (Some d) ≡ true → is_stopped (top_of d).status ≡ true
stopped_then Itself d h = h
stopped_then Whole d h = settled_stopped d h

meaning_ends : (levels : ℕ) (reach : Reach) (fuel : ℕ) (c : Space) → IsSoundAt levels false fuel c → Ends levels fuel reach c (meaning levels reach c).space
meaning_ends levels reach fuel c ok =
    let d = (meaning levels reach c).space in
    let a = meaning_reached levels reach false fuel c ok in
    let ready = meaning_ready levels reach fuel c ok in
    record { schedule = a.0; leads = leads_replay a.0 levels c d a.2; ready = ready; keeps = again d a.0 a.2 ready; sound = meaning_sound levels reach false fuel c ok }
  where
    again : (d : Space) (ps : List (List ℕ)) → Leads levels ps c d → is_ready reach (Some d) ≡ true → (v : Reach) → is_ready v (Some c) ≡ true → is_ready v (Some d) ≡ true
    again d ps leads ready Itself h = stopped_then reach d ready
    again d ps leads ready Whole h = ap is_settled (sym (settled_stays levels ps c d h leads)) ∙ h

child_ends : (levels fuel : ℕ) (reach : Reach) (n : ℕ) (cs : Children) (c : Space) → AreSound levels fuel 0 cs → find n cs ≡ Some c → Ends (pred levels) fuel reach c (of_children levels reach c).space
child_ends zero fuel reach n cs c ok is = let none = no_child fuel 0 n cs ok in cc
child_ends (suc levels) fuel reach n cs c ok is = meaning_ends levels reach fuel c (found_sound (suc levels) fuel n cs ok c is)

-- from some children to others
pub record Onward (levels fuel : ℕ) (t : Top) (cs ds : Children) : Type 0 where
  pub itself : GoesBy levels [] [] (space t cs) (space t ds)
  pub below : (n : ℕ) (p : List ℕ) → BelowStopped (n ∷ p) cs → GoesBy levels (n ∷ p) [] (space t cs) (space t ds) × BelowStopped (n ∷ p) ds
  pub keeps : (v : Reach) (m : ℕ) → is_ready v (find m cs) ≡ true → is_ready v (find m ds) ≡ true
  pub sound : AreSound levels fuel 0 ds

onward_stays : (levels fuel : ℕ) (t : Top) (cs : Children) → AreSound levels fuel 0 cs → Onward levels fuel t cs cs
onward_stays levels fuel t cs ok = record {
  itself = stays levels [] (space t cs);
  below = λ n p still. (stays levels (n ∷ p) (space t cs), still);
  keeps = λ v m h. h;
  sound = ok;
}

onward_then : (levels fuel : ℕ) (t : Top) (cs ds es : Children) → Onward levels fuel t cs ds → Onward levels fuel t ds es → Onward levels fuel t cs es
onward_then levels fuel t cs ds es a b = record {
  itself = goes_then levels [] [] [] (space t cs) (space t ds) (space t es) a.itself b.itself;
  below = λ n p still. let first = a.below n p still in let later = b.below n p first.1 in (goes_then levels (n ∷ p) [] [] (space t cs) (space t ds) (space t es) first.0 later.0, later.1);
  keeps = λ v m h. b.keeps v m (a.keeps v m h);
  sound = b.sound;
}

-- one child comes to its end
child_onward : (levels fuel : ℕ) (reach : Reach) (m : ℕ) (t : Top) (cs : Children) (c d : Space) → AreSound levels fuel 0 cs → find m cs ≡ Some c → Ends (pred levels) fuel reach c d
    → Onward levels fuel t cs (over m (λ x. d) cs)
child_onward levels fuel reach m t cs c d ok is ends = record {
  itself = record { schedule = lifted; leads = leads; events = own_elsewhere ends.schedule levels m [] (space t cs) (λ q. refl) };
  below = λ n p still. go n p still (cases_eq n m);
  keeps = λ v n h. ready v n h (cases_eq n m);
  sound = over_found_sound levels fuel 0 m (λ x. d) c cs ok is ends.sound;
}
  where
    lifted : List (List ℕ)
    lifted = map (λ q. m ∷ q) ends.schedule

    leads : replay lifted levels (space t cs) ≡ space t (over m (λ x. d) cs)
    leads = replay_below ends.schedule levels m t cs c is ∙ ap (λ x. space t (over m (λ y. x) cs)) ends.leads

    apart : (n : ℕ) (p : List ℕ) → (n ≡ m → ⊥) → (q : List ℕ) → is_same_path (n ∷ p) (m ∷ q) ≡ false
    apart n p ne q = grind (arith, nat_tests)

    go : (n : ℕ) (p : List ℕ) → BelowStopped (n ∷ p) cs → (n ≡ m) ⊎ (n ≡ m → ⊥) → GoesBy levels (n ∷ p) [] (space t cs) (space t (over m (λ x. d) cs)) × BelowStopped (n ∷ p) (over m (λ x. d) cs)
    go n p still (inl e) =
        let here : find n cs ≡ Some c = ap (λ i. find i cs) e ∙ is in
        let way = below_found n p (find n cs) c still here in
        let none : own_below levels (m ∷ p) lifted (space t cs) ≡ [] = own_of_child ends.schedule levels m p t cs c is ∙ none_own ends.schedule p (pred levels) c way in
        let later : WayStopped p d = subst (WayStopped p) ends.leads (way_stays ends.schedule p (pred levels) c way) in
        let now : find n (over m (λ x. d) cs) ≡ Some d = ap (λ i. find i (over m (λ x. d) cs)) e ∙ now_there m d c cs is in
        (record { schedule = lifted; leads = leads; events = ap (λ i. own_below levels (i ∷ p) lifted (space t cs)) e ∙ none }, subst (λ o. IfSome o (WayStopped p)) (sym now) later)
    go n p still (inr ne) = (
      record { schedule = lifted; leads = leads; events = own_elsewhere ends.schedule levels m (n ∷ p) (space t cs) (apart n p ne) },
      subst (λ o. IfSome o (WayStopped p)) (sym (find-over_other n m (λ x. d) cs ne)) still,
    )

    ready : (v : Reach) (n : ℕ) → is_ready v (find n cs) ≡ true → (n ≡ m) ⊎ (n ≡ m → ⊥) → is_ready v (find n (over m (λ x. d) cs)) ≡ true
    ready v n h (inl e) =
        let before : is_ready v (Some c) ≡ true = ap (is_ready v) (sym (ap (λ i. find i cs) e ∙ is)) ∙ h in
        ap (is_ready v) (ap (λ i. find i (over m (λ x. d) cs)) e ∙ now_there m d c cs is) ∙ ends.keeps v before
    ready v n h (inr ne) = ap (is_ready v) (find-over_other n m (λ x. d) cs ne) ∙ h

-- one that is awaited
one_waited : (levels fuel : ℕ) (a : Await) (t : Top) (cs : Children) (o : Option Space) → AreSound levels fuel 0 cs → find a.number cs ≡ o
    → Onward levels fuel t cs (wait_for_child (of_children levels) a cs o).children × (is_ready a.reach (find a.number (wait_for_child (of_children levels) a cs o).children) ≡ true)
one_waited levels fuel a t cs None ok is = (onward_stays levels fuel t cs ok, ap (is_ready a.reach) is)
one_waited levels fuel a t cs (Some c) ok is =
    let ends = child_ends levels fuel a.reach a.number cs c ok is in
    let d = (of_children levels a.reach c).space in
    (child_onward levels fuel a.reach a.number t cs c d ok is ends, ap (is_ready a.reach) (now_there a.number d c cs is) ∙ ends.ready)

-- all of them, one after the other
pub all_waited : (levels fuel : ℕ) (all : List Await) (t : Top) (cs : Children) → AreSound levels fuel 0 cs
    → Onward levels fuel t cs (wait_for (of_children levels) all cs).children × (are_ready all (wait_for (of_children levels) all cs).children ≡ true)
all_waited levels fuel [] t cs ok = (onward_stays levels fuel t cs ok, refl)
all_waited levels fuel (a ∷ others) t cs ok =
    let ds = (wait_for_child (of_children levels) a cs (find a.number cs)).children in
    let one = one_waited levels fuel a t cs (find a.number cs) ok refl in
    let rest = all_waited levels fuel others t ds one.0.sound in
    (onward_then levels fuel t cs ds (wait_for (of_children levels) others ds).children one.0 rest.0, and_from _ _ (rest.0.keeps a.reach a.number one.1) rest.1)
