-- A tree goes on in two parts, where it is known beforehand how many own events a path is to have: what both tell of the whole.
use Rattle.std.proofs.Common.{◌≡◌, ℕ, ◌^◌, suc, ◌+◌, ◌-◌, ◌<◌, true, List, [], ◌∷◌, ◌++◌, length, length-append, take, Option, Some, None, refl, sym, ap, ap₂, ◌∙◌, subst, arith, inl, inr, ◌⊎◌}
use Rattle.std.proofs.lemmas.Bool.{cases_eq}
use Rattle.std.proofs.lemmas.List.{length-take, take_all}
use Rattle.std.specs.Prelude.{option_map}
use Rattle.space_model.specs.Space.{Space, Top}
use Rattle.space_model.specs.Sound.{IsSound, IsSoundAt}
use Rattle.run_model.proofs.Sound.{replay_sound}
use Rattle.det_laws.specs.Tops.{top_at}
use Rattle.det_laws.specs.Tree.{NoneMayHappen, after_all}
use Rattle.event_laws.specs.OwnEvents.{OwnEvent, own_events}
use Rattle.event_laws.proofs.Histories.{all_alike}
use Rattle.explain_core.specs.declared.watching.Asked.{Asked}
use Rattle.explain_core.specs.declared.watching.Kept as code
use Rattle.explain_core.specs.declared.watching.Moment.{Moment}
use Rattle.explain_core.specs.declared.watching.Noticing.TheVariants as notice
use Rattle.explain_core.specs.declared.watching.Watched.{Watched}
use Rattle.explain_core.specs.Beside.{all}
use Rattle.explain_core.specs.Ending.{AsksChange, HasHad, KeepsChange, NoticesChange}
use Rattle.explain_core.specs.Going.{EndsWith, GoesBy, HasCome}
use Rattle.explain_core.specs.Reached.{HasAtLeast, HasFewerThan, HasSoMany, IsTrace, TellsLast, TellsMoment}
use Rattle.explain_core.specs.Trace.{trace_lines}
use Rattle.explain_core.specs.Watch.{Kept, NoneChanges, Noted, IsLastChange, keep, keep_all, kept_of, moment_at, nothing_kept, told}
use Rattle.explain_core.proofs.Coming.{all_own, firsts, is_trace}
use Rattle.explain_core.proofs.LastChange.{last_told, moment_kept}
use Rattle.explain_core.proofs.Schedules.{goes_then}
use Rattle.explain_core.proofs.Traces.{keep_none, kept_then}
use Rattle.explain_core.proofs.Turns.{ends_append}

-- ---- both parts as one

-- it does not matter up to which number own events are asked for
keep_alike : (a b : Asked) (w : Watched) (k : ℕ) (xs : List OwnEvent) (kept : Kept) → a.from ≡ 1 → a.noticing ≡ notice.Change w → b.from ≡ 1 → b.noticing ≡ notice.Change w → keep_all a k xs kept ≡ keep_all b k xs kept
keep_alike a b w k [] kept from noticing first same = refl
keep_alike a b w k (x ∷ xs) kept from noticing first same =
    let one : keep a k x kept ≡ keep b k x kept = rw (from, noticing, first, same) refl in
    ap (keep_all a (suc k) xs) one ∙ keep_alike a b w (suc k) xs (keep b k x kept) from noticing first same

-- the last of all of them is the last of the second part, unless there are none at all
ends : (xs ys : List OwnEvent) (o : Option Top) → (length ys ≡ 0 → length xs ≡ 0) → EndsWith ys o → EndsWith (xs ++ ys) o
ends [] ys o none last = last
ends (x ∷ xs) [] o none last = let long = none refl in absurd (omega (arith, long))
ends (x ∷ xs) (y ∷ ys) o none last = ends_append (x ∷ xs) (y ∷ ys) o (omega arith) last

come_then : (p : List ℕ) (a : Asked) (wanted left : ℕ) (own : List OwnEvent) (old mid new : Kept) (s t u : Space) → GoesBy 8 p own s t → length own + wanted ≡ a.to → (wanted ≡ 0 → length own ≡ 0) → mid ≡ keep_all a 0 own old
    → HasCome 8 p a wanted left mid new t u → HasCome 8 p a a.to left old new s u
come_then p a wanted left own old mid new s t u goes sum some first come =
    let count = come.count in
    let long = length-append own come.own in
    let none : a.to - a.to ≡ 0 = omega arith in
    record {
      own = own ++ come.own;
      goes = goes_then 8 p own come.own s t u goes come.goes;
      count = omega (arith, long, count, sum);
      kept = kept_then a a.to wanted old mid new own come.own (omega arith) sum (first ∙ ap (λ n. keep_all a n own old) (sym none)) come.kept;
      last = λ e. ends own come.own (top_at p u) (λ empty. some (omega (arith, empty, count, e))) (come.last e);
      over = come.over;
    }

-- ---- how many there are

-- some more were asked for: these are all
all_of : (start now : Space) (p : List ℕ) (a : Asked) (left : ℕ) (new : Kept) → IsSound start → 0 < left → (come : HasCome 8 p a a.to left nothing_kept new start now) → (ps : List (List ℕ)) → NoneMayHappen (after_all ps start) → own_events p ps start ≡ come.own
all_of start now p a left new sound more come ps ended =
    let full = all_own start now p a a.to left nothing_kept new sound more come in
    all_alike ps full.0 p start ended full.1 ∙ full.2

-- fewer than were asked for
fewer_than : (start now : Space) (p : List ℕ) (a : Asked) (left count : ℕ) (new : Kept) → IsSound start → 0 < left → a.to < left + count → HasCome 8 p a a.to left nothing_kept new start now → HasFewerThan start p count
fewer_than start now p a left count new sound more fewer come ps ended =
    let long = ap length (all_of start now p a left new sound more come ps ended) in
    let so_far = come.count in
    omega (arith, long, so_far, fewer)

-- none is left
at_least : (start now : Space) (p : List ℕ) (a : Asked) (left : ℕ) (new : Kept) → IsSound start → left ≡ 0 → HasCome 8 p a a.to left nothing_kept new start now → HasAtLeast start p a.to
at_least start now p a left new sound none come ps ended =
    let own = ap length (firsts start now p a left nothing_kept new sound come ps ended) in
    let long = length-take a.to (own_events p ps start) in
    let so_far = come.count in
    omega (arith, own, long, so_far, none)

-- one is left
exactly : (start now : Space) (p : List ℕ) (a : Asked) (count : ℕ) (new : Kept) → IsSound start → a.to ≡ count + 1 → HasCome 8 p a a.to 1 nothing_kept new start now
    → (ps : List (List ℕ)) → NoneMayHappen (after_all ps start) → length (own_events p ps start) ≡ count
exactly start now p a count new sound to come ps ended =
    let long = ap length (all_of start now p a 1 new sound (omega arith) come ps ended) in
    let so_far = come.count in
    omega (arith, long, so_far, to)

-- ---- the first part

pub had_sound : (start now : Space) (p : List ℕ) (n : ℕ) (w : Option Watched) (kept : Kept) → IsSound start → HasHad start p n w kept now → IsSound now
had_sound start now p n w kept sound h =
    let goes = h.goes in
    (sound.0, (sound.1.0, sound.1.1, subst (IsSoundAt 8 true sound.0) goes.leads (replay_sound goes.schedule 8 true sound.0 start sound.1.2)))

keeps : (a : Asked) (k : ℕ) (w : Option Watched) (own : List OwnEvent) (new : Kept) → NoticesChange w a → k ≡ 0 → new ≡ keep_all a k own nothing_kept → KeepsChange w own new
keeps a k None own new is none kept = tt
keeps a k (Some w) own new is none kept = (a, is.0, is.1, kept ∙ ap (λ n. keep_all a n own nothing_kept) none)

pub had : (start now : Space) (p : List ℕ) (a : Asked) (n left : ℕ) (w : Option Watched) (old new : Kept) → AsksChange p n w a → old ≡ nothing_kept → left ≡ 0 → HasCome 8 a.path.items a a.to left old new start now → HasHad start p n w new now
had start now p a n left w old new asks nothing none come =
    let count = come.count in
    let to = asks.to in
    record {
      own = come.own;
      goes = subst (λ q. GoesBy 8 q come.own start now) asks.path come.goes;
      count = omega (arith, count, to, none);
      kept = keeps a (a.to - a.to) w come.own new asks.noticing (omega arith) (come.kept ∙ ap (keep_all a (a.to - a.to) come.own) nothing);
    }

pub too_few : (start now : Space) (p : List ℕ) (a : Asked) (count left : ℕ) (w : Option Watched) (old new : Kept) → IsSound start → AsksChange p (count - 2) w a → old ≡ nothing_kept → (left ≡ 0 → ⊥) → HasCome 8 a.path.items a a.to left old new start now
    → HasFewerThan start p count
too_few start now p a count left w old new sound asks nothing more come =
    let to = asks.to in
    let some : 0 < left = omega (arith, more) in
    let from_nothing = subst (λ k. HasCome 8 a.path.items a a.to left k new start now) nothing come in
    subst (λ q. HasFewerThan start q count) asks.path (fewer_than start now a.path.items a left count new sound some (omega (arith, some, to)) from_nothing)

-- ---- the lines of the last two

-- of both parts together
lines_come : (start tree now : Space) (p : List ℕ) (a : Asked) (count wanted left : ℕ) (w : Option Watched) (kept new : Kept) → a.to ≡ count + 1 → a.from ≡ count - 1 → wanted ≡ a.to - (count - 2) → count + 1 < 2 ^ 64
    → HasHad start p (count - 2) w kept tree → HasCome 8 p a wanted left nothing_kept new tree now → HasCome 8 p a a.to left nothing_kept new start now
lines_come start tree now p a count wanted left w kept new to from rest fits h come =
    let long = h.count in
    come_then p a wanted left h.own nothing_kept nothing_kept new start tree now h.goes (omega (arith, long, to, rest)) (λ none. omega (arith, none, to, rest)) (early h.own long) come
  where
    early : (xs : List OwnEvent) → length xs ≡ count - 2 → nothing_kept ≡ keep_all a 0 xs nothing_kept
    early [] long = refl
    early (x ∷ xs) long = sym (keep_none a 0 (x ∷ xs) nothing_kept (omega (arith, long, from)))

pub lines_told : (start tree now : Space) (p : List ℕ) (a : Asked) (count wanted left : ℕ) (w : Option Watched) (kept old : Kept) (new : code.Kept) → IsSound start → a.path.items ≡ p → a.noticing ≡ notice.Lines → a.to ≡ count + 1 → a.from ≡ count - 1
    → wanted ≡ a.to - (count - 2) → count + 1 < 2 ^ 64 → old ≡ nothing_kept → left ≡ 1 → HasHad start p (count - 2) w kept tree → HasCome 8 a.path.items a wanted left old (kept_of new) tree now
    → HasSoMany start p count × IsTrace start p (count - 1) count new.lines.items
lines_told start tree now p a count wanted left w kept old new sound path noticing to from rest fits nothing one h come = (so_many, is_lines)
  where
    there : HasCome 8 p a wanted 1 nothing_kept (kept_of new) tree now
    there = subst (λ q. HasCome 8 q a wanted 1 nothing_kept (kept_of new) tree now) path (subst (λ n. HasCome 8 a.path.items a wanted n nothing_kept (kept_of new) tree now) one (subst (λ k. HasCome 8 a.path.items a wanted left k (kept_of new) tree now) nothing come))

    whole : HasCome 8 p a a.to 1 nothing_kept (kept_of new) start now
    whole = lines_come start tree now p a count wanted 1 w kept (kept_of new) to from rest fits h there

    so_many : HasSoMany start p count
    so_many ps ended = let long = exactly start now p a count (kept_of new) sound to whole ps ended in omega (arith, long, fits)

    is_lines : IsTrace start p (count - 1) count new.lines.items
    is_lines ps ended =
        let long = exactly start now p a count (kept_of new) sound to whole ps ended in
        is_trace start now p a 1 (kept_of new) path noticing sound whole ps ended
        ∙ ap₂ (λ n xs. trace_lines p n 0 xs) from (take_all a.to (own_events p ps start) (omega (arith, long, to)) ∙ sym (take_all count (own_events p ps start) (omega (arith, long))))

pub others : (start tree now : Space) (p : List ℕ) (a : Asked) (count wanted left : ℕ) (w : Option Watched) (kept old new : Kept) → IsSound start → a.path.items ≡ p → a.to ≡ count + 1 → a.from ≡ count - 1
    → wanted ≡ a.to - (count - 2) → count + 1 < 2 ^ 64 → old ≡ nothing_kept → (left ≡ 1 → ⊥) → HasHad start p (count - 2) w kept tree → HasCome 8 a.path.items a wanted left old new tree now
    → HasFewerThan start p count ⊎ HasAtLeast start p (count + 1)
others start tree now p a count wanted left w kept old new sound path to from rest fits nothing other h come = by_left (cases_eq left 0)
  where
    there : HasCome 8 p a wanted left nothing_kept new tree now
    there = subst (λ q. HasCome 8 q a wanted left nothing_kept new tree now) path (subst (λ k. HasCome 8 a.path.items a wanted left k new tree now) nothing come)

    whole : HasCome 8 p a a.to left nothing_kept new start now
    whole = lines_come start tree now p a count wanted left w kept new to from rest fits h there

    by_left : (left ≡ 0) ⊎ (left ≡ 0 → ⊥) → HasFewerThan start p count ⊎ HasAtLeast start p (count + 1)
    by_left (inl none) = inr (subst (HasAtLeast start p) to (at_least start now p a left new sound none whole))
    by_left (inr some) = inl (fewer_than start now p a left count new sound (omega (arith, some)) (omega (arith, some, other, to)) whole)

-- ---- the last that changed what is watched

-- of so many, which are all
to_all : (start : Space) (p : List ℕ) (count : ℕ) (w : Watched) (o : Option Moment) → count + 1 < 2 ^ 64 → HasSoMany start p count → TellsMoment start p count w o → TellsMoment start p all w o
to_all start p count w o fits so_many = by_moment o
  where
    same : (ps : List (List ℕ)) → NoneMayHappen (after_all ps start) → take count (own_events p ps start) ≡ take all (own_events p ps start)
    same ps ended =
        let long = so_many ps ended in
        let here : length (own_events p ps start) ≡ count = omega (arith, long, fits) in
        take_all count (own_events p ps start) (omega (arith, here)) ∙ sym (take_all all (own_events p ps start) (omega (arith, here, fits)))

    by_moment : (o : Option Moment) → TellsMoment start p count w o → TellsMoment start p all w o
    by_moment None tells = λ ps ended. subst (NoneChanges w) (same ps ended) (tells ps ended)
    by_moment (Some m) tells = λ ps ended. subst (λ xs. (k : ℕ) × (e : OwnEvent) × IsLastChange w xs k e × (m ≡ moment_at w (suc k) e)) (same ps ended) (tells ps ended)

pub change_told : (start tree now : Space) (p : List ℕ) (a : Asked) (count wanted left : ℕ) (w : Watched) (old : Kept) (new : code.Kept) (c : Option Noted) → IsSound start → AsksChange p count (Some w) a → wanted ≡ count - (count - 2) → count + 1 < 2 ^ 64
    → HasHad start p (count - 2) (Some w) old tree → HasSoMany start p count → HasCome 8 a.path.items a wanted left old (kept_of new) tree now → c ≡ option_map (told p) new.last → TellsLast start p all w c
change_told start tree now p a count wanted left w old new c sound asks rest fits h so_many come is =
    last_told start p all w new.last c (to_all start p count w new.last fits so_many (subst (λ n. TellsMoment start p n w new.last) asks.to (moment_kept start now p a w left new asks.noticing.1 (omega (arith, first)) sound whole))) is
  where
    first : a.from ≡ 1
    first = asks.noticing.0

    kept : KeepsChange (Some w) h.own old
    kept = h.kept

    there : HasCome 8 p a wanted left old (kept_of new) tree now
    there = subst (λ q. HasCome 8 q a wanted left old (kept_of new) tree now) asks.path come

    whole : HasCome 8 p a a.to left nothing_kept (kept_of new) start now
    whole =
        let long = h.count in
        let to = asks.to in
        come_then p a wanted left h.own nothing_kept old (kept_of new) start tree now h.goes (omega (arith, long, to, rest)) (λ none. omega (arith, none, long, rest))
        (kept.3 ∙ keep_alike kept.0 a w 0 h.own nothing_kept kept.1 kept.2 first asks.noticing.1) there
