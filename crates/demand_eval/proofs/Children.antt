-- The child of a number: it is sound one level below, and what it becomes the space has.
use Rattle.std.proofs.Common.{◌≡◌, ℕ, zero, suc, pred, ◌+◌, ◌-◌, ◌≤◌, false, Some, None, sym, ap, ◌∙◌, subst, arith}
use Rattle.space_model.specs.Space.{Space, space, Top, Children, find, over}
use Rattle.space_model.specs.Sound.{IsSoundAt, AreSound}
use Rattle.space_model.specs.Path.{under}
use Rattle.space_model.proofs.Children.{over-at, over_missing}
use Rattle.space_model.proofs.Sound.{find_sound, no_child}
use Rattle.demand_eval.specs.Turns.{IsSoundBelow}

found_below : (levels fuel n : ℕ) (cs : Children) (c : Space) → AreSound levels fuel 0 cs → find n cs ≡ Some c → (1 ≤ levels) × IsSoundBelow (pred levels) c
found_below zero fuel n cs c ok is = let none = no_child fuel 0 n cs ok in cc
found_below (suc levels) fuel n cs c ok is = let some : 1 ≤ suc levels = omega arith in (some, record { root = false; fuel = fuel; sound = (find_sound levels fuel 0 n cs c ok is).1 })

-- one level less for each level of depth
pub one_below : (depth : ℕ) → 8 - (depth + 1) ≡ pred (8 - depth)
one_below depth = omega arith

-- a child that is there
pub child_below : (depth n : ℕ) (u : Top) (s c : Space) (cs : Children) → IsSoundBelow (8 - depth) s → space u cs ≡ s → Some c ≡ find n cs → (depth + 1 ≤ 8) × IsSoundBelow (8 - (depth + 1)) c
child_below depth n u s c cs ok is at =
    let sound : IsSoundAt (8 - depth) ok.root ok.fuel (space u cs) = subst (IsSoundAt (8 - depth) ok.root ok.fuel) (sym is) ok.sound in
    let below = found_below (8 - depth) ok.fuel n cs c sound.1 (sym at) in
    let some = below.0 in
    (omega arith, subst (λ k. IsSoundBelow k c) (sym (one_below depth)) below.1)

-- it becomes f of it
pub child_becomes : (n : ℕ) (f : Space → Space) (u : Top) (s c w : Space) (cs ds : Children) → space u cs ≡ s → Some c ≡ find n cs → w ≡ f c → ds ≡ over n (λ _. w) cs → space u ds ≡ under (over n f) s
child_becomes n f u s c w cs ds is at we written = ap (space u) (written ∙ over-at n (λ _. w) f c cs (sym at) we) ∙ ap (under (over n f)) is

-- it is not there, and nothing happens
pub child_missing : (n : ℕ) (f : Space → Space) (u : Top) (s : Space) (cs : Children) → space u cs ≡ s → None ≡ find n cs → space u cs ≡ under (over n f) s
child_missing n f u s cs is at = ap (space u) (sym (over_missing n f cs (sym at))) ∙ ap (under (over n f)) is
