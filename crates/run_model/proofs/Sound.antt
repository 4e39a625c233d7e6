-- Runs, settling and events at paths keep a tree sound, and boot makes one that is.
use Rattle.std.proofs.Common.{◌≡◌, ℕ, zero, suc, pred, ◌^◌, ◌≤◌, ◌<◌, Bool, true, false, cond, List, [], ◌∷◌, Option, Some, None, refl, arith}
use Rattle.image_model.specs.Image.{Image}
use Rattle.call_model.specs.declared.Call.{Call}
use Rattle.device_model.specs.Devices.{Devices}
use Rattle.space_model.specs.Space.{Space, space, Children, Top, top_of, children_of, find}
use Rattle.space_model.specs.Sound.{IsSoundTop, IsSoundAt, AreSound, IsSound}
use Rattle.space_model.specs.declared.Reach.{Reach}
use Rattle.space_model.specs.declared.Reach.TheVariants.{Itself, Whole}
use Rattle.space_model.specs.declared.Await.{Await}
use Rattle.space_model.specs.Meeting.{awaits, meet}
use Rattle.space_model.specs.Event.{NextEvent, rests, moves, meets, next}
use Rattle.space_model.proofs.Sound.{found_sound, over_sound, over_found_sound, meet_sound}
use Rattle.space_model.proofs.Next.{next_meets, next_sound}
use Rattle.run_model.specs.Boot.{boot}
use Rattle.run_model.specs.Demand.{Meaning, wait_for, wait_for_child, go_on, run_for, everyone, no_events, meaning, run, settle}
use Rattle.run_model.specs.Schedule.{is_enabled, event, step, try_step}
use Rattle.run_model.specs.Replay.{replay}

-- what becomes of children keeps them sound
abbrev pub KeepsSound : Meaning → ℕ → ℕ → Type 0
KeepsSound f levels fuel = (reach : Reach) (c : Space) → IsSoundAt levels false fuel c → IsSoundAt levels false fuel (f reach c).space

wait_for_child_sound : (f : Meaning) (levels fuel : ℕ) (a : Await) (cs : Children) (o : Option Space) → KeepsSound f (pred levels) fuel → AreSound levels fuel 0 cs → find a.number cs ≡ o
    → AreSound levels fuel 0 (wait_for_child f a cs o).children
wait_for_child_sound f levels fuel a cs None kept ok at = ok
wait_for_child_sound f levels fuel a cs (Some c) kept ok at =
    over_found_sound levels fuel 0 a.number (λ d. (f a.reach c).space) c cs ok at (kept a.reach c (found_sound levels fuel a.number cs ok c at))

pub wait_for_sound : (f : Meaning) (levels fuel : ℕ) (as' : List Await) (cs : Children) → KeepsSound f (pred levels) fuel → AreSound levels fuel 0 cs → AreSound levels fuel 0 (wait_for f as' cs).children
wait_for_sound f levels fuel [] cs kept ok = ok
wait_for_sound f levels fuel (a ∷ others) cs kept ok =
    wait_for_sound f levels fuel others (wait_for_child f a cs (find a.number cs)).children kept (wait_for_child_sound f levels fuel a cs (find a.number cs) kept ok refl)

-- a call that is next keeps its caller sound
pub next_meets_sound : (levels : ℕ) (root : Bool) (fuel : ℕ) (t u : Top) (k : Call) (cs : Children) → next levels t ≡ meets k u → IsSoundTop fuel root t → AreSound levels fuel 0 cs → IsSoundAt levels root fuel (meet levels k u cs)
next_meets_sound levels root fuel t u k cs e top ok =
    let call = next_meets levels t k u e in
    rw call.paid (meet_sound levels root fuel k t cs call.may call.pays.fuel (top, ok))

pub run_for_sound : (f : Meaning) (levels : ℕ) (root : Bool) (fuel n : ℕ) (s : Space) → KeepsSound f (pred levels) fuel → IsSoundAt levels root fuel s → IsSoundAt levels root fuel (run_for f levels n s).space
unfolding run_for
run_for_sound f levels root fuel zero s kept ok = ok
run_for_sound f levels root fuel (suc n) (space t cs) kept ok = go (next levels t) refl (λ r h. run_for_sound f levels root fuel n r kept h)
  where
    go : (x : NextEvent) → next levels t ≡ x → ((r : Space) → IsSoundAt levels root fuel r → IsSoundAt levels root fuel (run_for f levels n r).space) → IsSoundAt levels root fuel (go_on levels x (space t cs) f (run_for f levels n)).space
    go rests e rec = ok
    go (moves u) e rec = rec (space u cs) (next_sound levels fuel root t u e ok.0, ok.1)
    go (meets k u) e rec = rec _ (next_meets_sound levels root fuel t u k (wait_for f (awaits k) cs).children e ok.0 (wait_for_sound f levels fuel (awaits k) cs kept ok.1))

settled_children_sound : (f : Meaning) (levels : ℕ) (root : Bool) (fuel : ℕ) (s : Space) → KeepsSound f (pred levels) fuel → IsSoundAt levels root fuel s
    → IsSoundAt levels root fuel (space (top_of s) (wait_for f (everyone (children_of s)) (children_of s)).children)
settled_children_sound f levels root fuel (space t cs) kept ok = (ok.0, wait_for_sound f levels fuel (everyone cs) cs kept ok.1)

pub meaning_sound : (levels : ℕ) (reach : Reach) (root : Bool) (fuel : ℕ) (s : Space) → IsSoundAt levels root fuel s → IsSoundAt levels root fuel (meaning levels reach s).space
unfolding meaning
meaning_sound zero Itself root fuel s ok = run_for_sound no_events zero root fuel (suc (top_of s).fuel) s (λ reach c h. h) ok
meaning_sound zero Whole root fuel s ok =
    settled_children_sound no_events zero root fuel (run_for no_events zero (suc (top_of s).fuel) s).space (λ reach c h. h) (run_for_sound no_events zero root fuel (suc (top_of s).fuel) s (λ reach c h. h) ok)
meaning_sound (suc levels) Itself root fuel s ok = run_for_sound (meaning levels) (suc levels) root fuel (suc (top_of s).fuel) s (λ reach c h. meaning_sound levels reach false fuel c h) ok
meaning_sound (suc levels) Whole root fuel s ok =
    settled_children_sound (meaning levels) (suc levels) root fuel (run_for (meaning levels) (suc levels) (suc (top_of s).fuel) s).space (λ reach c h. meaning_sound levels reach false fuel c h)
    (run_for_sound (meaning levels) (suc levels) root fuel (suc (top_of s).fuel) s (λ reach c h. meaning_sound levels reach false fuel c h) ok)

pub run_sound : (levels : ℕ) (root : Bool) (fuel : ℕ) (s : Space) → IsSoundAt levels root fuel s → IsSoundAt levels root fuel (run levels s)
run_sound levels root fuel s ok = meaning_sound levels Itself root fuel s ok

pub settle_sound : (levels : ℕ) (root : Bool) (fuel : ℕ) (s : Space) → IsSoundAt levels root fuel s → IsSoundAt levels root fuel (settle levels s)
settle_sound levels root fuel s ok = meaning_sound levels Whole root fuel s ok

-- a root that is about to run
pub boot_sound : (i : Image) (d : Devices) (fuel : ℕ) → 1 ≤ fuel → fuel < 2 ^ 32 → IsSound (boot i d fuel)
unfolding boot
boot_sound i d fuel low high = (fuel, (low, high, (record { sum = omega arith; devices = refl }, tt)))

-- an event at a path
pub event_sound : (levels : ℕ) (root : Bool) (fuel : ℕ) (t : Top) (cs : Children) (x : NextEvent) → next levels t ≡ x → IsSoundAt levels root fuel (space t cs) → IsSoundAt levels root fuel (event levels x (space t cs))
event_sound levels root fuel t cs rests e ok = ok
event_sound levels root fuel t cs (moves u) e ok = (next_sound levels fuel root t u e ok.0, ok.1)
event_sound levels root fuel t cs (meets k u) e ok = next_meets_sound levels root fuel t u k cs e ok.0 ok.1

pub step_sound : (p : List ℕ) (levels : ℕ) (root : Bool) (fuel : ℕ) (s : Space) → IsSoundAt levels root fuel s → IsSoundAt levels root fuel (step p levels s)
step_sound [] levels root fuel (space t cs) ok = event_sound levels root fuel t cs (next levels t) refl ok
step_sound (n ∷ p) levels root fuel (space t cs) ok = (ok.0, over_sound levels fuel 0 n (step p (pred levels)) cs ok.1 (λ c at h. step_sound p (pred levels) false fuel c h))

pub try_step_sound : (p : List ℕ) (levels : ℕ) (root : Bool) (fuel : ℕ) (s : Space) → IsSoundAt levels root fuel s → IsSoundAt levels root fuel (try_step p levels s)
try_step_sound p levels root fuel s ok = go (is_enabled p levels s)
  where
    go : (b : Bool) → IsSoundAt levels root fuel (cond b (step p levels s) s)
    go true = step_sound p levels root fuel s ok
    go false = ok

-- the events at many paths, each where it may happen
pub replay_sound : (ps : List (List ℕ)) (levels : ℕ) (root : Bool) (fuel : ℕ) (s : Space) → IsSoundAt levels root fuel s → IsSoundAt levels root fuel (replay ps levels s)
replay_sound [] levels root fuel s ok = ok
replay_sound (p ∷ ps) levels root fuel s ok = replay_sound ps levels root fuel (try_step p levels s) (try_step_sound p levels root fuel s ok)

-- the same of a whole tree
pub try_step_whole : (p : List ℕ) (s : Space) → IsSound s → IsSound (try_step p 8 s)
try_step_whole p s ok = (ok.0, (ok.1.0, ok.1.1, try_step_sound p 8 true ok.0 s ok.1.2))

pub replay_whole : (ps : List (List ℕ)) (s : Space) → IsSound s → IsSound (replay ps 8 s)
replay_whole ps s ok = (ok.0, (ok.1.0, ok.1.1, replay_sound ps 8 true ok.0 s ok.1.2))
