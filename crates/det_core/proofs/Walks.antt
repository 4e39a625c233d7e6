-- The paths of a schedule one after the other, as a loop takes them.
use Rattle.std.proofs.Common.{◌≡◌, ◌<◌, ◌≤◌, ◌+◌, ℕ, suc, List, [], ◌∷◌, length, get_or, drop, map, refl, ap, sym, subst, ◌∙◌, arith, add-one}
use Rattle.std.proofs.lemmas.List.{nil_from_length, length-drop}
use Rattle.std.proofs.Math.Seq.{drop-cons}
use Rattle.space_model.specs.Space.{Space}
use Rattle.space_model.specs.Sound.{IsSound}
use Rattle.run_model.specs.Schedule.{try_step}
use Rattle.run_model.specs.Replay.{replay}
use Rattle.run_model.proofs.Sound.{replay_whole}

pub goes_on : {P : Type 0} (view : P → List ℕ) (items : List P) (i : ℕ) (d : P) (old new total : Space) → i < length items → new ≡ try_step (view (get_or items i d)) 8 old
    → replay (map view (drop i items)) 8 old ≡ total → replay (map view (drop (i + 1) items)) 8 new ≡ total
goes_on view items i d old new total lt stepped so_far =
    let next : drop (suc i) items ≡ drop (i + 1) items = rw add-one refl in
    let first : map view (drop i items) ≡ view (get_or items i d) ∷ map view (drop (i + 1) items) = ap (map view) (drop-cons items i d lt) ∙ ap (λ (t : List _). view (get_or items i d) ∷ map view t) next in
    ap (replay (map view (drop (i + 1) items)) 8) stepped ∙ (sym (ap (λ (ps : List (List ℕ)). replay ps 8 old) first) ∙ so_far)

pub is_done : {P : Type 0} (view : P → List ℕ) (items : List P) (i : ℕ) (s total : Space) → length items ≤ i → replay (map view (drop i items)) 8 s ≡ total → s ≡ total
is_done view items i s total le so_far =
    let none : drop i items ≡ [] = nil_from_length (drop i items) (omega (arith, length-drop i items)) in
    sym (ap (λ ps. replay (map view ps) 8 s) none) ∙ so_far

-- a tree that has gone through a schedule is sound if it was
pub walked_sound : (ps : List (List ℕ)) (old new : Space) → new ≡ replay ps 8 old → IsSound old → IsSound new
walked_sound ps old new walked sound = subst IsSound (sym walked) (replay_whole ps old sound)
