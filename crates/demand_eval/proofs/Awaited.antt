-- Children that a call waits for run, or settle, one after another.
use Rattle.std.proofs.Common.{◌≡◌, ℕ, zero, suc, pred, ◌+◌, ◌≤◌, ◌<◌, Bool, false, List, [], ◌∷◌, Some, length, get_or, drop, refl, sym, ap, ◌∙◌, drop-cons, add-one}
use Rattle.std.specs.Prelude.{slice_get}
use Rattle.std.proofs.lemmas.List.{drop_all}
use Rattle.std.proofs.lemmas.Option.{slice_get_within, get_or_from_slice_get}
use Rattle.call_model.specs.declared.Call.{Call}
use Rattle.space_model.specs.declared.Await.{Await}
use Rattle.space_model.specs.declared.Reach.{Reach}
use Rattle.space_model.specs.Space.{Space, space, Top, Children, none, over}
use Rattle.space_model.specs.Sound.{IsSoundAt, AreSound}
use Rattle.space_model.specs.Path.{under}
use Rattle.space_model.specs.Meeting.{awaits}
use Rattle.space_model.proofs.Sound.{over_sound, no_children}
use Rattle.run_model.specs.Demand.{Meaning, wait_for, of_children}
use Rattle.run_model.proofs.Run.{wait_for-first}
use Rattle.run_model.proofs.Sound.{meaning_sound}
use Rattle.demand_eval.specs.Turns.{IsSoundBelow, end_of, with_awaited}

-- the awaited children become f of them, one after another
abbrev pub over_awaited : (Reach → Space → Space) → List Await → Space → Space
over_awaited f [] s = s
over_awaited f (a ∷ others) s = over_awaited f others (under (over a.number (f a.reach)) s)

-- one more is done
pub over_awaited-more : (f : Reach → Space → Space) (all : List Await) (i : ℕ) (a : Await) (s r : Space) → slice_get all i ≡ Some a → r ≡ under (over a.number (f a.reach)) s
    → over_awaited f (drop (i + 1) all) r ≡ over_awaited f (drop i all) s
over_awaited-more f all i a s r at is =
    let within : i < length all = slice_get_within all i a at in
    let item : get_or all i a ≡ a = get_or_from_slice_get all i a a at in
    rw (is, add-one, drop-cons all i a within, item) refl

-- and at the end all are
pub over_awaited-done : (f : Reach → Space → Space) (all : List Await) (i : ℕ) (s : Space) → length all ≤ i → over_awaited f (drop i all) s ≡ s
over_awaited-done f all i s h = let empty : drop i all ≡ [] = drop_all i all h in rw empty refl

-- to wait for some is to wait for each
wait_each : (f : Meaning) (all : List Await) (t : Top) (cs : Children) → space t (wait_for f all cs).children ≡ over_awaited (λ reach c. (f reach c).space) all (space t cs)
wait_each f [] t cs = refl
wait_each f (a ∷ others) t cs = ap (space t) (wait_for-first f a others cs) ∙ wait_each f others t (over a.number (λ c. (f a.reach c).space) cs)

-- a space without children has none to wait for
over_none : (f : Reach → Space → Space) (all : List Await) (t : Top) → over_awaited f all (space t none) ≡ space t none
over_none f [] t = refl
over_none f (a ∷ others) t = over_none f others t

-- what becomes of children; at the last level there is none
ends_at : (levels : ℕ) (root : Bool) (fuel : ℕ) (all : List Await) (t : Top) (cs : Children) → IsSoundAt levels root fuel (space t cs)
    → over_awaited (λ reach c. (of_children levels reach c).space) all (space t cs) ≡ over_awaited (end_of (pred levels)) all (space t cs)
ends_at zero root fuel all t cs ok =
    let empty : cs ≡ none = no_children fuel 0 cs ok.1 in
    rw empty (over_none (λ reach c. (of_children zero reach c).space) all t ∙ sym (over_none (end_of (pred zero)) all t))
ends_at (suc levels) root fuel all t cs ok = refl

-- each child that a call waits for
pub awaited_all : (levels : ℕ) (k : Call) (all : List Await) (s : Space) → IsSoundBelow levels s → all ≡ awaits k → over_awaited (end_of (pred levels)) all s ≡ with_awaited levels k s
awaited_all levels k all (space t cs) ok is =
    sym (ends_at levels ok.root ok.fuel all t cs ok.sound) ∙ sym (wait_each (of_children levels) all t cs) ∙ ap (λ (xs : List Await). space t (wait_for (of_children levels) xs cs).children) is

-- a child that has run, or settled, leaves its parent sound
pub one_awaited : (levels n : ℕ) (reach : Reach) (s r : Space) → IsSoundBelow levels s → r ≡ under (over n (end_of (pred levels) reach)) s → IsSoundBelow levels r
one_awaited levels n reach (space t cs) r ok is =
    let kept : AreSound levels ok.fuel 0 (over n (end_of (pred levels) reach) cs) = over_sound levels ok.fuel 0 n (end_of (pred levels) reach) cs ok.sound.1 (λ c at h. meaning_sound (pred levels) reach false ok.fuel c h) in
    rw is (record { root = ok.root; fuel = ok.fuel; sound = (ok.sound.0, kept) })
