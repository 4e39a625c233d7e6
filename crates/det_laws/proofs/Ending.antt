-- Schedules after which no event may happen: the tree has settled, and the events that happened were all that were left.
use Rattle.std.proofs.Common.{◌≡◌, ℕ, ◌+◌, Bool, true, false, cond, List, [], ◌∷◌, length, refl, sym, ◌∙◌, arith}
use Rattle.space_model.specs.Space.{Space, is_settled}
use Rattle.space_model.specs.Sound.{IsSoundAt}
use Rattle.space_model.specs.declared.Reach.TheVariants.{Whole}
use Rattle.run_model.specs.Schedule.{is_enabled}
use Rattle.run_model.specs.Demand.{settle, work}
use Rattle.run_model.proofs.Sound.{step_sound, replay_sound}
use Rattle.det_laws.specs.Tree.{MayAllHappen, NoneMayHappen, after, after_all, effective_steps, events_left}
use Rattle.det_laws.proofs.Commutes.{settled_rests}
use Rattle.det_laws.specs.Leads.{Leads}
use Rattle.det_laws.proofs.Leading.{settled_stays}
use Rattle.det_laws.proofs.Reaching.{meaning_reached, event_counts, replay_settles, never_stuck}

-- a settled tree has no events left, and settles to itself
settled_leaves : (levels : ℕ) (fuel : ℕ) (s : Space) → IsSoundAt levels true fuel s → is_settled s ≡ true → (work levels s ≡ 0) × (settle levels s ≡ s)
settled_leaves levels fuel s ok still =
    let a = meaning_reached levels Whole true fuel s ok in
    (sym a.1 ∙ none a.0 a.2, sym (settled_stays levels a.0 s (settle levels s) still a.2))
  where
    none : (ps : List (List ℕ)) → Leads levels ps s (settle levels s) → length ps ≡ 0
    none [] a = refl
    none (p ∷ ps) a = absurd (settled_rests p levels s still a.0)

-- where no event may happen, the tree has settled
none_settled : (fuel : ℕ) (s : Space) → IsSoundAt 8 true fuel s → NoneMayHappen s → is_settled s ≡ true
none_settled fuel s ok none = go (is_settled s) refl
  where
    go : (b : Bool) → is_settled s ≡ b → is_settled s ≡ true
    go true is = is
    go false is = let more = never_stuck 8 true fuel s ok (λ still. cc) in absurd (none more.0 more.1)

-- each event that happens is one of those that are left
pub counted : (ps : List (List ℕ)) (fuel : ℕ) (s : Space) → IsSoundAt 8 true fuel s → effective_steps ps s + events_left (after_all ps s) ≡ events_left s
counted [] fuel s ok = omega arith
counted (p ∷ ps) fuel s ok =
    go (is_enabled p 8 s) refl (counted ps fuel (after p s) (step_sound p 8 true fuel s ok)) (counted ps fuel s ok)
  where
    go : (b : Bool) → is_enabled p 8 s ≡ b → effective_steps ps (after p s) + events_left (after_all ps (after p s)) ≡ events_left (after p s)
        → effective_steps ps s + events_left (after_all ps s) ≡ events_left s
        → cond b (1 + effective_steps ps (after p s)) (effective_steps ps s) + events_left (after_all ps (cond b (after p s) s)) ≡ events_left s
    go true may happens idle = let one = (event_counts p 8 true fuel s ok may).1 in omega (arith, one, happens)
    go false may happens idle = idle

-- where each may happen in its turn, all of them happen
pub all_happen : (ps : List (List ℕ)) (s : Space) → MayAllHappen ps s → effective_steps ps s ≡ length ps
all_happen [] s all = refl
all_happen (p ∷ ps) s all = rw all.0 (let rest = all_happen ps (after p s) all.1 in omega (arith, rest))

pub as_many : (ps : List (List ℕ)) (fuel : ℕ) (s : Space) → IsSoundAt 8 true fuel s → NoneMayHappen (after_all ps s) → effective_steps ps s ≡ events_left s
as_many ps fuel s ok none =
    let ok' = replay_sound ps 8 true fuel s ok in
    let left = (settled_leaves 8 fuel (after_all ps s) ok' (none_settled fuel (after_all ps s) ok' none)).0 in
    let all = counted ps fuel s ok in
    omega (arith, left, all)

pub ends : (ps : List (List ℕ)) (fuel : ℕ) (s : Space) → IsSoundAt 8 true fuel s → NoneMayHappen (after_all ps s) → after_all ps s ≡ settle 8 s
ends ps fuel s ok none =
    let ok' = replay_sound ps 8 true fuel s ok in
    sym (settled_leaves 8 fuel (after_all ps s) ok' (none_settled fuel (after_all ps s) ok' none)).1 ∙ replay_settles ps 8 true fuel s ok
