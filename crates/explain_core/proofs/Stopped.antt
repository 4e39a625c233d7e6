-- Where every space on the way to a path has stopped, no event happens at the path any more, and they stay stopped.
use Rattle.std.proofs.Common.{◌≡◌, ℕ, pred, Bool, true, false, List, [], ◌∷◌, Option, Some, None, refl, sym, ap, ◌∙◌, subst, inl, inr, ◌⊎◌}
use Rattle.std.proofs.lemmas.Bool.{cases_eq}
use Rattle.std.specs.Prelude.{IfSome, option_map, if◌then◌else◌}
use Rattle.space_model.specs.Space.{Space, space, find, over}
use Rattle.space_model.proofs.Children.{find-over_same, find-over_other}
use Rattle.run_model.specs.Schedule.{is_enabled, step, try_step}
use Rattle.run_model.specs.Replay.{replay}
use Rattle.det_laws.proofs.Commutes.{child_there, stopped_waits}
use Rattle.event_laws.specs.OwnEvents.{own_event_at, is_same_path, and_others}
use Rattle.event_laws.proofs.Histories.{no_event}
use Rattle.explain_core.specs.Going.{own_below, WayStopped}

-- the child on the way, if it is there
pub below_found : (n : ℕ) (p : List ℕ) (o : Option Space) (c : Space) → IfSome o (WayStopped p) → o ≡ Some c → WayStopped p c
below_found n p None c h is = cc
below_found n p (Some d) c h is = let e : d ≡ c = cc in subst (WayStopped p) e h

-- nothing may happen at the path
way_waits : (p : List ℕ) (levels : ℕ) (s : Space) → WayStopped p s → is_enabled p levels s ≡ true → ⊥
way_waits [] levels (space t cs) still may = stopped_waits levels t cs still may
way_waits (n ∷ p) levels (space t cs) still may =
    let c = child_there (is_enabled p (pred levels)) (find n cs) may in
    way_waits p (pred levels) c.0 (below_found n p (find n cs) c.0 still.1 c.1) c.2

-- an event elsewhere leaves the spaces on the way
way_step : (p q : List ℕ) (levels : ℕ) (s : Space) → WayStopped p s → is_enabled q levels s ≡ true → WayStopped p (step q levels s)
way_step p [] levels (space t cs) still may = absurd (stopped_waits levels t cs (first p still) may)
  where
    first : (p : List ℕ) → WayStopped p (space t cs) → WayStopped [] (space t cs)
    first [] h = h
    first (n ∷ p) h = h.0
way_step [] (m ∷ q) levels (space t cs) still may = still
way_step (n ∷ p) (m ∷ q) levels (space t cs) still may =
    let c = child_there (is_enabled q (pred levels)) (find m cs) may in
    (still.0, go (cases_eq n m) c.0 c.1 c.2 (λ h. way_step p q (pred levels) c.0 h c.2))
  where
    f : Space → Space
    f = step q (pred levels)

    go : (n ≡ m) ⊎ (n ≡ m → ⊥) → (c : Space) → find m cs ≡ Some c → is_enabled q (pred levels) c ≡ true → (WayStopped p c → WayStopped p (f c)) → IfSome (find n (over m f cs)) (WayStopped p)
    go (inl e) c is may' later =
        let now : find n (over m f cs) ≡ Some (f c) = ap (λ i. find i (over m f cs)) e ∙ find-over_same m f cs ∙ ap (option_map f) is in
        subst (λ o. IfSome o (WayStopped p)) (sym now) (later (below_found n p (find n cs) c still.1 (ap (λ i. find i cs) e ∙ is)))
    go (inr ne) c is may' later = subst (λ o. IfSome o (WayStopped p)) (sym (find-over_other n m f cs ne)) still.1

pub way_stays : (qs : List (List ℕ)) (p : List ℕ) (levels : ℕ) (s : Space) → WayStopped p s → WayStopped p (replay qs levels s)
way_stays [] p levels s still = still
way_stays (q ∷ qs) p levels s still = way_stays qs p levels (try_step q levels s) (one (is_enabled q levels s) refl)
  where
    one : (b : Bool) → is_enabled q levels s ≡ b → WayStopped p (try_step q levels s)
    one true may = rw may (way_step p q levels s still may)
    one false un = rw un still

-- no schedule has an own event of the path
pub none_own : (qs : List (List ℕ)) (p : List ℕ) (levels : ℕ) (s : Space) → WayStopped p s → own_below levels p qs s ≡ []
none_own [] p levels s still = refl
none_own (q ∷ qs) p levels s still =
    ap (λ o. and_others (if is_same_path p q then o else None) (own_below levels p qs (try_step q levels s))) none
    ∙ drop (is_same_path p q)
    ∙ none_own qs p levels (try_step q levels s) (way_stays (q ∷ []) p levels s still)
  where
    waits : (b : Bool) → is_enabled p levels s ≡ b → b ≡ false
    waits false is = refl
    waits true is = absurd (way_waits p levels s still is)

    none : own_event_at p levels s ≡ None
    none = no_event p levels s (waits (is_enabled p levels s) refl)

    drop : (b : Bool) → and_others (if b then None else None) (own_below levels p qs (try_step q levels s)) ≡ own_below levels p qs (try_step q levels s)
    drop true = refl
    drop false = refl
