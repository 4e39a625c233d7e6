-- A space goes on for the sake of a path, and its own events there are counted: what that says of a whole tree.
use Rattle.std.proofs.Common.{◌≡◌, ℕ, ◌^◌, zero, suc, pred, ◌+◌, ◌-◌, ◌<◌, ◌≤◌, true, false, List, [], ◌∷◌, ◌++◌, length, length-append, take, Option, Some, None, refl, sym, ap, ap₂, ◌∙◌, subst, arith, inl, inr, ◌⊎◌, min}
use Rattle.std.proofs.lemmas.Bool.Decides.{nat_tests}
use Rattle.std.proofs.lemmas.Bool.{cases_eq}
use Rattle.std.proofs.lemmas.List.{append-nil, length-take, take_all}
use Rattle.std.proofs.lemmas.Option.{slice_get_within}
use Rattle.std.specs.List.{slice_get}
use Rattle.std.specs.Prelude.{IfSome, nat_eq, option_map, option_and_then}
use Rattle.space_model.specs.declared.Reach.TheVariants.{Whole}
use Rattle.space_model.specs.Space.{Space, space, Top, Children, top_of, find, over}
use Rattle.space_model.specs.Path.{at}
use Rattle.space_model.specs.Sound.{IsSound, IsSoundAt}
use Rattle.run_model.specs.Schedule.{is_enabled}
use Rattle.run_model.specs.Replay.{replay}
use Rattle.run_model.specs.Demand.{settle}
use Rattle.run_model.proofs.Settled.{settle-settled}
use Rattle.run_model.proofs.Sound.{replay_sound}
use Rattle.demand_eval.proofs.Children.{one_below}
use Rattle.det_laws.specs.Tops.{top_at}
use Rattle.det_laws.specs.Tree.{NoneMayHappen, after_all}
use Rattle.det_laws.proofs.Commutes.{settled_rests}
use Rattle.det_laws.proofs.Reaching.{meaning_reached}
use Rattle.event_laws.specs.OwnEvents.{OwnEvent, IsOwnEvent, own_events}
use Rattle.event_laws.proofs.Histories.{one_meaning, has_all, all_alike}
use Rattle.explain_core.specs.declared.going.Turn.{Turn}
use Rattle.explain_core.specs.declared.watching.Asked.{Asked}
use Rattle.explain_core.specs.declared.watching.Noticing.TheVariants as notice
use Rattle.explain_core.specs.Going.{own_below, GoesBy, WayStopped, BelowStopped, EndsWith, TakesTurn, TellsTurn, SoFar, HasCome, HasComeBelow}
use Rattle.explain_core.specs.Reached.{HasJustHappened, HasSoMany, IsTrace, NeverHappens, ShowsEvent}
use Rattle.explain_core.specs.Trace.{trace_lines}
use Rattle.explain_core.specs.Watch.{Kept, keep_all, nothing_kept}
use Rattle.explain_core.specs.Text.{event_text}
use Rattle.explain_core.specs.declared.bytes.Bytes.{Bytes}
use Rattle.explain_core.proofs.Schedules.{whole, replay_parts, own_parts, goes_then, stays, leads_replay, child_goes, child_quiet, now_there}
use Rattle.explain_core.proofs.Stopped.{none_own}
use Rattle.explain_core.proofs.Traces.{front, kept_lines, kept_then}
use Rattle.explain_core.proofs.Turns.{ends_append}

pub at_first : (levels : ℕ) (p : List ℕ) (a : Asked) (wanted : ℕ) (old : Kept) (s : Space) → SoFar levels p a wanted wanted old old s s
at_first levels p a wanted old s = record { own = []; goes = stays levels p s; count = omega arith; kept = refl }

-- more of them
pub more : (levels : ℕ) (p : List ℕ) (a : Asked) (wanted left later : ℕ) (old mid new : Kept) (s t u : Space) (ys : List OwnEvent) → wanted ≤ a.to → SoFar levels p a wanted left old mid s t → GoesBy levels p ys t u
    → length ys + later ≡ left → new ≡ keep_all a (a.to - left) ys mid → SoFar levels p a wanted later old new s u
more levels p a wanted left later old mid new s t u ys fits far goes count told =
    let before = far.count in
    let long = length-append far.own ys in
    record {
      own = far.own ++ ys;
      goes = goes_then levels p far.own ys s t u far.goes goes;
      count = omega (arith, long, before, count);
      kept = kept_then a wanted left old mid new far.own ys fits before far.kept told;
    }

-- a turn of the space itself
pub one_turn : (levels : ℕ) (a : Asked) (wanted left later : ℕ) (turn : Turn) (old mid new : Kept) (s t u : Space) → wanted ≤ a.to → SoFar levels [] a wanted left old mid s t → TellsTurn levels left a turn mid new t u
    → later + turn.events ≡ left → SoFar levels [] a wanted later old new s u
one_turn levels a wanted left later turn old mid new s t u fits far tells rest =
    let takes = tells.takes in
    let count = takes.count in
    more levels [] a wanted left later old mid new s t u takes.own fits far takes.itself (omega (arith, count, rest)) tells.kept

-- after which no more are left, or it has stopped
pub come_itself : (levels : ℕ) (a : Asked) (wanted left later : ℕ) (turn : Turn) (old mid new : Kept) (s t u : Space) → wanted ≤ a.to → SoFar levels [] a wanted left old mid s t → TellsTurn levels left a turn mid new t u
    → later + turn.events ≡ left → 1 ≤ left → (0 < later → turn.stopped ≡ true) → HasCome levels [] a wanted later old new s u
come_itself levels a wanted left later turn old mid new s t u fits far tells rest some stops =
    let takes = tells.takes in
    let count = takes.count in
    let all = one_turn levels a wanted left later turn old mid new s t u fits far tells rest in
    let before = far.count in
    let long = length-append far.own takes.own in
    record {
      own = far.own ++ takes.own;
      goes = goes_then levels [] far.own takes.own s t u far.goes takes.itself;
      count = omega (arith, long, before, count, rest);
      kept = kept_then a wanted left old mid new far.own takes.own fits before far.kept tells.kept;
      last = λ none. ends_append far.own takes.own (Some (top_of u)) (omega (arith, count, rest, some, none)) takes.last;
      over = λ left. (takes.stopped (stops left)).0;
    }

-- a child that is on the way has gone on
come_below : (levels n : ℕ) (a : Asked) (wanted left : ℕ) (p : List ℕ) (old new : Kept) (t : Top) (cs : Children) (c d : Space) → find n cs ≡ Some c → HasCome (pred levels) p a wanted left old new c d
    → HasComeBelow levels (n ∷ p) a wanted left old new (space t cs) (space t (over n (λ x. d) cs))
come_below levels n a wanted left p old new t cs c d is come =
    let now : find n (over n (λ x. d) cs) ≡ Some d = now_there n d c cs is in
    record {
      own = come.own;
      goes = child_goes levels n p come.own t cs c d is come.goes;
      count = come.count;
      kept = come.kept;
      last = λ none. subst (EndsWith come.own) (sym (ap (λ o. option_map top_of (option_and_then (at p) o)) now)) (come.last none);
      over = λ some. subst (λ o. IfSome o (WayStopped p)) (sym now) (come.over some);
      top = refl;
      itself = child_quiet levels n p come.own t cs c d is come.goes;
    }

-- none is on the way
none_below : (levels n : ℕ) (a : Asked) (wanted : ℕ) (p : List ℕ) (old : Kept) (t : Top) (cs : Children) → find n cs ≡ None → HasComeBelow levels (n ∷ p) a wanted wanted old old (space t cs) (space t cs)
none_below levels n a wanted p old t cs is = record {
  own = [];
  goes = stays levels (n ∷ p) (space t cs);
  count = omega arith;
  kept = refl;
  last = λ none. tt;
  over = λ some. subst (λ o. IfSome o (WayStopped p)) (sym is) tt;
  top = refl;
  itself = stays levels [] (space t cs);
}

-- in the words of a depth
pub come_child : (depth n : ℕ) (a : Asked) (wanted left : ℕ) (p : List ℕ) (old new : Kept) (t : Top) (s c d : Space) (cs : Children) → space t cs ≡ s → Some c ≡ find n cs → HasCome (8 - (depth + 1)) p a wanted left old new c d
    → HasComeBelow (8 - depth) (n ∷ p) a wanted left old new s (space t (over n (λ x. d) cs))
come_child depth n a wanted left p old new t s c d cs is found come =
    subst (λ r. HasComeBelow (8 - depth) (n ∷ p) a wanted left old new r (space t (over n (λ x. d) cs))) is
    (come_below (8 - depth) n a wanted left p old new t cs c d (sym found) (subst (λ k. HasCome k p a wanted left old new c d) (one_below depth) come))

pub none_child : (depth n : ℕ) (a : Asked) (wanted : ℕ) (p : List ℕ) (old : Kept) (t : Top) (s : Space) (cs : Children) → space t cs ≡ s → None ≡ find n cs → HasComeBelow (8 - depth) (n ∷ p) a wanted wanted old old s (space t cs)
none_child depth n a wanted p old t s cs is found = subst (λ r. HasComeBelow (8 - depth) (n ∷ p) a wanted wanted old old r (space t cs)) is (none_below (8 - depth) n a wanted p old t cs (sym found))

-- in the words of a child
pub far_child : (depth n : ℕ) (a : Asked) (wanted left : ℕ) (p : List ℕ) (old new : Kept) (t : Top) (s c d : Space) (cs : Children) → space t cs ≡ s → Some c ≡ find n cs → SoFar (8 - (depth + 1)) p a wanted left old new c d
    → SoFar (8 - depth) (n ∷ p) a wanted left old new s (space t (over n (λ x. d) cs))
far_child depth n a wanted left p old new t s c d cs is found far = record {
  own = far.own;
  goes = subst (λ r. GoesBy (8 - depth) (n ∷ p) far.own r (space t (over n (λ x. d) cs))) is
      (child_goes (8 - depth) n p far.own t cs c d (sym found) (subst (λ k. GoesBy k p far.own c d) (one_below depth) far.goes));
  count = far.count;
  kept = far.kept;
}

-- no more are left of a path below
pub come_at_end : (levels : ℕ) (a : Asked) (wanted left : ℕ) (p : List ℕ) (old new : Kept) (s now : Space) → left ≡ 0 → HasComeBelow levels p a wanted left old new s now → HasCome levels p a wanted left old new s now
come_at_end levels a wanted left p old new s now none come = record {
  own = come.own;
  goes = come.goes;
  count = come.count;
  kept = come.kept;
  last = come.last;
  over = λ more. absurd (omega (arith, more, none));
}

-- so many so far, and then more
pub come_on : (levels : ℕ) (a : Asked) (wanted left later : ℕ) (p : List ℕ) (old mid new : Kept) (s t u : Space) → wanted ≤ a.to → SoFar levels p a wanted left old mid s t → 1 ≤ left → HasCome levels p a left later mid new t u
    → HasCome levels p a wanted later old new s u
come_on levels a wanted left later p old mid new s t u fits far some come =
    let count = come.count in
    let before = far.count in
    let long = length-append far.own come.own in
    record {
      own = far.own ++ come.own;
      goes = goes_then levels p far.own come.own s t u far.goes come.goes;
      count = omega (arith, long, before, count);
      kept = kept_then a wanted left old mid new far.own come.own fits before far.kept come.kept;
      last = λ e. ends_append far.own come.own (top_at p u) (omega (arith, count, some, e)) (come.last e);
      over = come.over;
    }

-- no more are left
pub come_through : (levels : ℕ) (a : Asked) (wanted left later : ℕ) (p : List ℕ) (old mid new : Kept) (s t u : Space) → wanted ≤ a.to → SoFar levels p a wanted left old mid s t → 1 ≤ left → later ≡ 0 → HasComeBelow levels p a left later mid new t u
    → HasCome levels p a wanted 0 old new s u
come_through levels a wanted left later p old mid new s t u fits far some none come =
    subst (λ n. HasCome levels p a wanted n old new s u) none (come_on levels a wanted left later p old mid new s t u fits far some (come_at_end levels a left later p mid new t u none come))

-- a turn of a space above
pub turn_above : (levels most n : ℕ) (a : Asked) (wanted left later : ℕ) (p : List ℕ) (old mid new : Kept) (turn : Turn) (s t u v : Space) → wanted ≤ a.to → SoFar levels (n ∷ p) a wanted left old mid s t
    → HasComeBelow levels (n ∷ p) a left later mid new t u → 0 < later → TakesTurn levels most turn u v → SoFar levels (n ∷ p) a wanted later old new s v
turn_above levels most n a wanted left later p old mid new turn s t u v fits far come some takes =
    let far' = more levels (n ∷ p) a wanted left later old mid new s t u come.own fits far come.goes come.count come.kept in
    more levels (n ∷ p) a wanted later later old new new s u v [] fits far' (takes.below n p (come.over some)) (omega arith) refl

-- which has stopped then
pub come_stopped : (levels most n : ℕ) (a : Asked) (wanted left later : ℕ) (p : List ℕ) (old mid new : Kept) (turn : Turn) (s t u v : Space) → wanted ≤ a.to → SoFar levels (n ∷ p) a wanted left old mid s t
    → HasComeBelow levels (n ∷ p) a left later mid new t u → 0 < later → TakesTurn levels most turn u v → turn.stopped ≡ true → HasCome levels (n ∷ p) a wanted later old new s v
come_stopped levels most n a wanted left later p old mid new turn s t u v fits far come some takes stops =
    let far' = turn_above levels most n a wanted left later p old mid new turn s t u v fits far come some takes in
    let still = takes.stopped stops in
    record {
      own = far'.own;
      goes = far'.goes;
      count = far'.count;
      kept = far'.kept;
      last = λ none. absurd (omega (arith, none, some));
      over = λ more. (still.0, subst (BelowStopped (n ∷ p)) (sym still.1) (come.over some));
    }

-- the last of so many own events
last_of : (xs : List OwnEvent) (n : ℕ) (o : Option Top) → length xs ≡ suc n → EndsWith xs o → (e : OwnEvent) × (slice_get xs n ≡ Some e) × (o ≡ Some e.after)
last_of [] n o long ends = absurd (omega (arith, long))
last_of (e ∷ []) zero o long ends = (e, refl, ends)
last_of (e ∷ []) (suc n) o long ends = absurd (omega (arith, long))
last_of (e ∷ f ∷ es) zero o long ends = absurd (omega (arith, long))
last_of (e ∷ f ∷ es) (suc n) o long ends = last_of (f ∷ es) n o (omega (arith, long)) ends

-- none is left: the last one has just happened
happened : (start now : Space) (p : List ℕ) (a : Asked) (number : ℕ) (old new : Kept) → 1 ≤ number → HasCome 8 p a number 0 old new start now → HasJustHappened start p (number - 1) now
happened start now p a number old new some come =
    let count = come.count in
    let goes = come.goes in
    let e = last_of come.own (number - 1) (top_at p now) (omega (arith, count, some)) (come.last refl) in
    record {
      schedule = goes.schedule;
      leads = goes.leads;
      event = e.0;
      happens = ap (λ xs. slice_get xs (number - 1)) (sym (whole p goes.schedule start) ∙ goes.events) ∙ e.1;
      top = e.2;
      count = ap length (sym (whole p goes.schedule start) ∙ goes.events) ∙ omega (arith, count, some);
    }

-- every space on the way has stopped: these are all own events that any schedule has
pub all_own : (start now : Space) (p : List ℕ) (a : Asked) (wanted left : ℕ) (old new : Kept) → IsSound start → 0 < left → (come : HasCome 8 p a wanted left old new start now)
    → (full : List (List ℕ)) × NoneMayHappen (after_all full start) × (own_events p full start ≡ come.own)
all_own start now p a wanted left old new sound more come =
    let goes = come.goes in
    let ok : IsSoundAt 8 true sound.0 now = subst (IsSoundAt 8 true sound.0) goes.leads (replay_sound goes.schedule 8 true sound.0 start sound.1.2) in
    let rest = meaning_reached 8 Whole true sound.0 now ok in
    let full = goes.schedule ++ rest.0 in
    let end : after_all full start ≡ settle 8 now = replay_parts goes.schedule rest.0 8 start ∙ ap (replay rest.0 8) goes.leads ∙ leads_replay rest.0 8 now (settle 8 now) rest.2 in (
      full,
      (λ q may. settled_rests q 8 (settle 8 now) (settle-settled 8 true sound.0 now ok) (ap (λ x. is_enabled q 8 x) (sym end) ∙ may)),
      sym (whole p full start) ∙ own_parts 8 p goes.schedule rest.0 start
          ∙ ap₂ (λ xs ys. xs ++ ys) goes.events (ap (own_below 8 p rest.0) goes.leads ∙ none_own rest.0 p 8 now (come.over more)) ∙ append-nil come.own,
    )

-- every space on the way has stopped before there were so many
pub never : (start now : Space) (p : List ℕ) (a : Asked) (number left : ℕ) (old new : Kept) → IsSound start → 1 ≤ number → 0 < left → HasCome 8 p a number left old new start now → NeverHappens start p (number - 1)
never start now p a number left old new sound some more come ps e is =
    let all = all_own start now p a number left old new sound more come in
    let within = slice_get_within (own_events p all.0 start) (number - 1) e (has_all ps all.0 p start all.1 (number - 1) e is) in
    let long = ap length all.2 in
    let count = come.count in
    absurd (omega (arith, within, long, count, some, more))

-- in each schedule that has the event, the top behind it is the one here
in_every : (start : Space) (p : List ℕ) (k : ℕ) (now : Space) → HasJustHappened start p k now → (ps : List (List ℕ)) (e : OwnEvent) → IsOwnEvent ps start p k e → top_at p now ≡ Some e.after
in_every start p k now h ps e is = h.top ∙ ap (λ x. Some x.after) (one_meaning ps h.schedule p start k h.event e h.happens is)

-- the text of the space there shows the event
pub shows : (w : Option Bytes) (start : Space) (p : List ℕ) (number : ℕ) (now c : Space) (text : List ℕ) → 1 ≤ number → HasJustHappened start p (number - 1) now → at p now ≡ Some c
    → text ≡ event_text w p number (top_of c) → ShowsEvent w start p (number - 1) text
shows w start p number now c text some h there is = record {
  schedule = h.schedule;
  event = h.event;
  happens = h.happens;
  shown = λ ps e happens. is ∙ ap₂ (event_text w p) one_more (same (sym (ap (option_map top_of) there) ∙ in_every start p (number - 1) now h ps e happens));
}
  where
    one_more : number ≡ number - 1 + 1
    one_more = omega arith

    same : {t u : Top} → Some t ≡ Some u → t ≡ u
    same e = cc

-- in the words of the answer
pub has_happened : (start now : Space) (p : List ℕ) (a : Asked) (number left : ℕ) (old new : Kept) → 1 ≤ number → nat_eq left 0 ≡ true → HasCome 8 p a number left old new start now → HasJustHappened start p (number - 1) now
has_happened start now p a number left old new some none come =
    let none' : left ≡ 0 = grind (arith, nat_tests) in
    happened start now p a number old new some (subst (λ k. HasCome 8 p a number k old new start now) none' come)

pub cannot_happen : (start now : Space) (p : List ℕ) (a : Asked) (number left : ℕ) (old new : Kept) → IsSound start → 1 ≤ number → nat_eq left 0 ≡ false → HasCome 8 p a number left old new start now → NeverHappens start p (number - 1)
cannot_happen start now p a number left old new sound some more come =
    let more' : 0 < left = grind (arith, nat_tests) in
    never start now p a number left old new sound some more' come

-- none is wanted
pub none_wanted : (levels wanted : ℕ) (p : List ℕ) (a : Asked) (old : Kept) (s : Space) → wanted ≡ 0 → HasCome levels p a wanted 0 old old s s
none_wanted levels wanted p a old s none = record {
  own = [];
  goes = stays levels p s;
  count = omega (arith, none);
  kept = refl;
  last = λ e. tt;
  over = λ more. absurd (omega (arith, more));
}

-- where nothing was kept at first
pub from_nothing : (start now : Space) (p : List ℕ) (a : Asked) (wanted left : ℕ) (old new : Kept) → old ≡ nothing_kept → HasCome 8 p a wanted left old new start now → HasCome 8 p a wanted left nothing_kept new start now
from_nothing start now p a wanted left old new is come = subst (λ k. HasCome 8 p a wanted left k new start now) is come

-- own events so far are the first of each schedule that has ended
pub first_own : (start now : Space) (p : List ℕ) (own : List OwnEvent) → GoesBy 8 p own start now → (ps : List (List ℕ)) → NoneMayHappen (after_all ps start) → take (length own) (own_events p ps start) ≡ own
first_own start now p own goes ps ended = front (own_events p ps start) own (λ k e at. has_all goes.schedule ps p start ended k e (ap (λ xs. slice_get xs k) mine ∙ at))
  where
    mine : own_events p goes.schedule start ≡ own
    mine = sym (whole p goes.schedule start) ∙ goes.events

-- they are the first own events of each schedule that has ended
pub firsts : (start now : Space) (p : List ℕ) (a : Asked) (left : ℕ) (old new : Kept) → IsSound start → (come : HasCome 8 p a a.to left old new start now)
    → (ps : List (List ℕ)) → NoneMayHappen (after_all ps start) → take a.to (own_events p ps start) ≡ come.own
firsts start now p a left old new sound come ps ended = first (cases_eq left 0)
  where
    count : length come.own + left ≡ a.to
    count = come.count

    first : (left ≡ 0) ⊎ (left ≡ 0 → ⊥) → take a.to (own_events p ps start) ≡ come.own
    first (inl none) =
        let long : length come.own ≡ a.to = omega (arith, none, count) in
        ap (λ n. take n (own_events p ps start)) (sym long) ∙ first_own start now p come.own come.goes ps ended
    first (inr some) =
        let more : 0 < left = omega (arith, some) in
        let all = all_own start now p a a.to left old new sound more come in
        let same : own_events p ps start ≡ come.own = all_alike ps all.0 p start ended all.1 ∙ all.2 in
        ap (take a.to) same ∙ take_all a.to come.own (omega (arith, count))

-- the lines are those of the first own events of each schedule that has ended
pub is_trace : (start now : Space) (p : List ℕ) (a : Asked) (left : ℕ) (new : Kept) → a.path.items ≡ p → a.noticing ≡ notice.Lines → IsSound start → HasCome 8 p a a.to left nothing_kept new start now → IsTrace start p a.from a.to new.lines
is_trace start now p a left new is unwatched sound come ps ended =
    let none : a.to - a.to ≡ 0 = omega arith in
    ap (λ (k : Kept). k.lines) (come.kept ∙ kept_lines a (a.to - a.to) come.own nothing_kept unwatched)
    ∙ ap₂ (λ q k. trace_lines q a.from k come.own) is none ∙ ap (trace_lines p a.from 0) (sym (firsts start now p a left nothing_kept new sound come ps ended))

-- how many there are
pub so_many : (start now : Space) (p : List ℕ) (a : Asked) (left : ℕ) (new : Kept) → a.to ≡ 2 ^ 64 - 1 → IsSound start → HasCome 8 p a a.to left nothing_kept new start now → HasSoMany start p (2 ^ 64 - 1 - left)
so_many start now p a left new most sound come ps ended =
    let own = ap length (firsts start now p a left nothing_kept new sound come ps ended) in
    let long = length-take a.to (own_events p ps start) in
    let count = come.count in
    let here : 2 ^ 64 - 1 - left ≡ length come.own = omega (arith, count, most) in
    here ∙ sym own ∙ long ∙ ap (λ n. min n (length (own_events p ps start))) most

pub not_gone : (start : Space) (p : List ℕ) (k : ℕ) (now : Space) → HasJustHappened start p k now → at p now ≡ None → ⊥
not_gone start p k now h gone = let top = h.top in let none : top_at p now ≡ None = ap (option_map top_of) gone in cc
