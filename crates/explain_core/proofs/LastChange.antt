-- The last own event that changed what is watched.
use Rattle.std.proofs.Common.{◌≡◌, ℕ, suc, ◌+◌, ◌-◌, ◌≤◌, List, length, take, Option, Some, None, sym, ap, ◌∙◌, subst, arith, inl, inr, ◌⊎◌}
use Rattle.std.specs.List.{slice_get}
use Rattle.std.specs.Prelude.{option_map}
use Rattle.space_model.specs.Space.{Space}
use Rattle.space_model.specs.Sound.{IsSound}
use Rattle.det_laws.specs.Tree.{NoneMayHappen, after_all}
use Rattle.event_laws.specs.OwnEvents.{OwnEvent, own_events}
use Rattle.explain_core.specs.declared.watching.Asked.{Asked}
use Rattle.explain_core.specs.declared.watching.Kept as code
use Rattle.explain_core.specs.declared.watching.Moment.{Moment}
use Rattle.explain_core.specs.declared.watching.Noticing.TheVariants as notice
use Rattle.explain_core.specs.declared.watching.Watched.{Watched}
use Rattle.explain_core.specs.Going.{HasCome, SoFar}
use Rattle.explain_core.specs.Reached.{NeverChanges, TellsLast, TellsMoment}
use Rattle.explain_core.specs.Watch.{IsLastChange, Kept, NoneChanges, Noted, keep_all, kept_of, moment_at, note, nothing_kept, told}
use Rattle.explain_core.proofs.Coming.{first_own, firsts}
use Rattle.explain_core.proofs.Traces.{KeepsLast, keep_last}

one : {X : Type 0} (x y : X) → Some x ≡ Some y → x ≡ y
one x y e = cc

-- what is kept of own events that are the first of a schedule
abbrev pub Tells : Watched → List OwnEvent → Option Moment → Type 0
Tells w es None = NoneChanges w es
Tells w es (Some m) = (k : ℕ) × (e : OwnEvent) × IsLastChange w es k e × (m ≡ moment_at w (suc k) e)

last_of_some : (w : Watched) (es : List OwnEvent) (k n : ℕ) (e : OwnEvent) (o : Option Moment) → IsLastChange w es k e → n ≡ suc k → o ≡ Some (moment_at w n e) → Tells w es o
last_of_some w es k n e None last number is = cc
last_of_some w es k n e (Some m) last number is = (k, e, last, one m (moment_at w n e) is ∙ ap (λ j. moment_at w j e) number)

last_of_none : (w : Watched) (es : List OwnEvent) (o : Option Moment) → NoneChanges w es → o ≡ None → Tells w es o
last_of_none w es None none is = none
last_of_none w es (Some m) none is = cc

tells_last : (a : Asked) (w : Watched) (k : ℕ) (es : List OwnEvent) (new : Kept) → k ≡ 0 → a.noticing ≡ notice.Change w → a.from ≤ 1 → new ≡ keep_all a k es nothing_kept → Tells w es new.last
tells_last a w k es new first watched from kept = go (keep_last a w k es nothing_kept watched from)
  where
    go : KeepsLast w k es (keep_all a k es nothing_kept) ⊎ (NoneChanges w es × (keep_all a k es nothing_kept ≡ nothing_kept)) → Tells w es new.last
    go (inl l) = last_of_some w es l.number (suc (k + l.number)) l.event new.last l.is_last (omega (arith, first)) (ap (λ (x : Kept). x.last) kept ∙ l.kept)
    go (inr r) = last_of_none w es new.last r.0 (ap (λ (x : Kept). x.last) (kept ∙ r.1))

pub in_every : (start : Space) (p : List ℕ) (to : ℕ) (w : Watched) (es : List OwnEvent) (o : Option Moment) → ((ps : List (List ℕ)) → NoneMayHappen (after_all ps start) → take to (own_events p ps start) ≡ es) → Tells w es o → TellsMoment start p to w o
in_every start p to w es None same tells = λ ps ended. subst (NoneChanges w) (sym (same ps ended)) tells
in_every start p to w es (Some m) same (k, e, last, is) = λ ps ended. (k, e, subst (λ xs. IsLastChange w xs k e) (sym (same ps ended)) last, is)

-- what is kept of all own events that are asked for
pub moment_kept : (start now : Space) (p : List ℕ) (a : Asked) (w : Watched) (left : ℕ) (k : code.Kept) → a.noticing ≡ notice.Change w → a.from ≤ 1 → IsSound start
    → HasCome 8 p a a.to left nothing_kept (kept_of k) start now → TellsMoment start p a.to w k.last
moment_kept start now p a w left k watched all sound come =
    let nothing : a.to - a.to ≡ 0 = omega arith in
    in_every start p a.to w come.own k.last (firsts start now p a left nothing_kept (kept_of k) sound come) (tells_last a w (a.to - a.to) come.own (kept_of k) nothing watched all come.kept)

-- what is kept of own events so far, of all that are asked for
pub moment_so_far : (start now : Space) (p : List ℕ) (a : Asked) (w : Watched) (left : ℕ) (k : code.Kept) → a.noticing ≡ notice.Change w → a.from ≤ 1 → SoFar 8 p a a.to left nothing_kept (kept_of k) start now → TellsMoment start p (a.to - left) w k.last
moment_so_far start now p a w left k watched all far =
    let nothing : a.to - a.to ≡ 0 = omega arith in
    let count = far.count in
    let long : length far.own ≡ a.to - left = omega (arith, count) in
    subst (λ n. TellsMoment start p n w k.last) long
    (in_every start p (length far.own) w far.own k.last (first_own start now p far.own far.goes) (tells_last a w (a.to - a.to) far.own (kept_of k) nothing watched all far.kept))

-- and what is told of it
as_told : (p : List ℕ) (w : Watched) (k : ℕ) (e : OwnEvent) (m : Moment) → m ≡ moment_at w k e → told p m ≡ note p w k e
unfolding moment_at
as_told p w k e m is = ap (told p) is

pub last_told : (start : Space) (p : List ℕ) (to : ℕ) (w : Watched) (o : Option Moment) (c : Option Noted) → TellsMoment start p to w o → c ≡ option_map (told p) o → TellsLast start p to w c
last_told start p to w None c tells is = subst (TellsLast start p to w) (sym is) tells
last_told start p to w (Some m) c tells is = subst (TellsLast start p to w) (sym is) (λ ps ended. by_event (tells ps ended))
  where
    by_event : {es : List OwnEvent} → (k : ℕ) × (e : OwnEvent) × IsLastChange w es k e × (m ≡ moment_at w (suc k) e) → (k : ℕ) × (e : OwnEvent) × IsLastChange w es k e × (told p m ≡ note p w (suc k) e)
    by_event (k, e, last, this) = (k, e, last, as_told p w (suc k) e m this)

-- of none of them
pub none_of_none : (start : Space) (p : List ℕ) (to : ℕ) (w : Watched) → to ≡ 0 → NeverChanges start p to w
none_of_none start p to w none ps ended k e here = let empty = ap (λ n. slice_get (take n (own_events p ps start)) k) none in cc
