-- What is so of each of a child's files in its turn.
use Rattle.std.proofs.Common.{◌≡◌, ℕ, ◌+◌, ◌<◌, Bool, true, false, cond, not, List, [], ◌∷◌, refl, ap, sym, subst, ◌∙◌, arith, Option}
use Rattle.std.specs.Prelude.{◌==◌, ◌&&◌}
use Rattle.std.proofs.lemmas.Bool.{false≢true}
use Rattle.file_model.specs.File.{File}
use Rattle.file_model.specs.Slots.{slots_of, is_in_use, slot_start}
use Rattle.file_model.specs.Operations.{entry_of}
use Rattle.file_model.specs.Reconcile.{Outcome, stays, writes, leaves_out, reconcile_file, against, is_at}
use Rattle.file_image.specs.Lookup.{file_in}
use Rattle.file_image.specs.Outcomes.{is_shown, is_changed}
use Rattle.file_image.specs.Spared.{AtEachTurn, IsSparedFor, IsSparedTurn, is_taken, slots_after}
use Rattle.file_image.proofs.LaterFiles.{later, later_next, later_shown}

-- a property of the parent's slots and a file
abbrev pub OfTurn : Type 1
OfTurn = List (Option File) → File → Type 0

pub turn_none : (so : OfTurn) (s : List (Option File)) → AtEachTurn so s []
unfolding AtEachTurn
turn_none so s = tt

pub turn_first : (so : OfTurn) (s : List (Option File)) (c : File) (cs : List File) → AtEachTurn so s (c ∷ cs) → so s c
unfolding AtEachTurn
turn_first so s c cs all = all.0

pub turn_rest : (so : OfTurn) (s : List (Option File)) (c : File) (cs : List File) → AtEachTurn so s (c ∷ cs) → AtEachTurn so (slots_after s (reconcile_file c s)) cs
unfolding AtEachTurn
turn_rest so s c cs all = all.1

pub turn_more : (so : OfTurn) (s : List (Option File)) (c : File) (cs : List File) → so s c → AtEachTurn so (slots_after s (reconcile_file c s)) cs → AtEachTurn so s (c ∷ cs)
unfolding AtEachTurn
turn_more so s c cs here rest = (here, rest)

-- the turn of slot k's file
pub turn_here : (so : OfTurn) (s : List (Option File)) (d : ℕ → ℕ) (k : ℕ) → k < 64 → is_shown d k ≡ true → AtEachTurn so s (later d k) → so s (file_in d k)
turn_here so s d k l h all = turn_first so s (file_in d k) (later d (k + 1)) (subst (AtEachTurn so s) (later_shown d k l h) all)

-- and those after it
pub turns_later : (so : OfTurn) (s t : List (Option File)) (d : ℕ → ℕ) (k : ℕ) → k < 64 → is_shown d k ≡ true → t ≡ slots_after s (reconcile_file (file_in d k) s) → AtEachTurn so s (later d k) → AtEachTurn so t (later d (k + 1))
turns_later so s t d k l h e all = subst (λ x. AtEachTurn so x (later d (k + 1))) (sym e) (turn_rest so s (file_in d k) (later d (k + 1)) (subst (AtEachTurn so s) (later_shown d k l h) all))

pub turns_with : (so : OfTurn) (s t : List (Option File)) (d : ℕ → ℕ) (k : ℕ) → k < 64 → is_shown d k ≡ true → t ≡ slots_after s (reconcile_file (file_in d k) s) → so s (file_in d k) → AtEachTurn so t (later d (k + 1)) → AtEachTurn so s (later d k)
turns_with so s t d k l h e here rest =
    subst (AtEachTurn so s) (sym (later_shown d k l h)) (turn_more so s (file_in d k) (later d (k + 1)) here (subst (λ x. AtEachTurn so x (later d (k + 1))) e rest))

-- ---- a file that is as it was at its base

unchanged : (c : File) (s : List (Option File)) (v : Bool) → v ≡ (c.version == c.base) → v ≡ true → reconcile_file c s ≡ stays
unchanged c s v e h = ap (λ t. cond t stays (against c (entry_of s c.name) s)) (sym e ∙ h)

idle_rest : (so : OfTurn) (u v a : Bool) (s : List (Option File)) (c : File) (cs : List File) → v ≡ (c.version == c.base) → (u && (not v && a)) ≡ false → AtEachTurn so s (cond (u && a) (c ∷ cs) cs) → AtEachTurn so s cs
idle_rest so true true true s c cs e h all = subst (λ o. AtEachTurn so (slots_after s o) cs) (unchanged c s true e refl) (turn_rest so s c cs all)
idle_rest so true true false s c cs e h all = all
idle_rest so true false true s c cs e h all = absurd (false≢true (sym h))
idle_rest so true false false s c cs e h all = all
idle_rest so false v a s c cs e h all = all

pub turns_idle : (so : OfTurn) (s : List (Option File)) (d : ℕ → ℕ) (k : ℕ) → k < 64 → is_changed d k ≡ false → AtEachTurn so s (later d k) → AtEachTurn so s (later d (k + 1))
turns_idle so s d k l h all =
    idle_rest so (is_in_use d (slot_start k)) ((file_in d k).version == (file_in d k).base) (is_at k (entry_of (slots_of d) (file_in d k).name)) s (file_in d k) (later d (k + 1)) refl h
    (subst (AtEachTurn so s) (later_next d k l) all)

idle_more : (first : ℕ → ℕ → ℕ) (spared : ℕ → ℕ) (u v a : Bool) (s : List (Option File)) (c : File) (cs : List File) → v ≡ (c.version == c.base) → (u && (not v && a)) ≡ false
    → AtEachTurn (IsSparedTurn first spared) s cs → AtEachTurn (IsSparedTurn first spared) s (cond (u && a) (c ∷ cs) cs)
idle_more first spared true true true s c cs e h all =
    let same : reconcile_file c s ≡ stays = unchanged c s true e refl in
    turn_more (IsSparedTurn first spared) s c cs (subst (λ o. IsSparedFor o (is_taken c (entry_of s c.name)) first spared c.content) (sym same) tt) (subst (λ o. AtEachTurn (IsSparedTurn first spared) (slots_after s o) cs) (sym same) all)
idle_more first spared true true false s c cs e h all = all
idle_more first spared true false true s c cs e h all = absurd (false≢true (sym h))
idle_more first spared true false false s c cs e h all = all
idle_more first spared false v a s c cs e h all = all

pub turns_with_idle : (first : ℕ → ℕ → ℕ) (spared : ℕ → ℕ) (s : List (Option File)) (d : ℕ → ℕ) (k : ℕ) → k < 64 → is_changed d k ≡ false
    → AtEachTurn (IsSparedTurn first spared) s (later d (k + 1)) → AtEachTurn (IsSparedTurn first spared) s (later d k)
turns_with_idle first spared s d k l h all =
    subst (AtEachTurn (IsSparedTurn first spared) s) (sym (later_next d k l))
    (idle_more first spared (is_in_use d (slot_start k)) ((file_in d k).version == (file_in d k).base) (is_at k (entry_of (slots_of d) (file_in d k).name)) s (file_in d k) (later d (k + 1)) refl h all)

-- ---- as many bytes, which are the same

pub spared_carried : (o : Outcome) (taken : Bool) (f g : ℕ → ℕ → ℕ) (m n : ℕ → ℕ) (content : List ℕ) → ((k : ℕ) → n k ≡ m k) → ((k i : ℕ) → i < m k → g k i ≡ f k i) → IsSparedFor o taken f m content → IsSparedFor o taken g n content
spared_carried stays taken f g m n content count same h = tt
spared_carried (writes e) true f g m n content count same h = record {
  few = omega (arith, count e.slot, h.few);
  same = λ i below. (let l : i < m e.slot = omega (arith, count e.slot) in same e.slot i l ∙ h.same i l);
}
spared_carried (writes e) false f g m n content count same h = count e.slot ∙ h
spared_carried leaves_out taken f g m n content count same h = tt
