-- What is kept of own events, part by part.
use Rattle.std.proofs.Common.{◌≡◌, ℕ, suc, ◌+◌, ◌-◌, ◌<◌, ◌≤◌, Bool, true, false, List, [], ◌∷◌, ◌++◌, append_assoc, length, take, Option, Some, refl, sym, ap, ap₂, ◌∙◌, arith, inl, inr, ◌⊎◌, zero}
use Rattle.std.proofs.lemmas.Bool.Decides.{nat_tests}
use Rattle.std.proofs.lemmas.List.{append-nil}
use Rattle.std.specs.List.{slice_get}
use Rattle.std.specs.Prelude.{◌==◌, nat_le, not}
use Rattle.memory_model.specs.Memory.{Memory}
use Rattle.space_model.specs.Space.{Space, space, Children, Top, top_of}
use Rattle.event_laws.specs.OwnEvents.{OwnEvent}
use Rattle.explain_core.specs.declared.watching.Asked.{Asked}
use Rattle.explain_core.specs.declared.watching.Found.{Found}
use Rattle.explain_core.specs.declared.watching.Noticing.{Noticing}
use Rattle.explain_core.specs.declared.watching.Noticing.TheVariants as notice
use Rattle.explain_core.specs.declared.watching.Watched.{Watched}
use Rattle.explain_core.specs.declared.going.Turn.{Turn}
use Rattle.explain_core.specs.Going.{StartsWith, EndsWith, TakesTurn, TellsTurn}
use Rattle.explain_core.specs.Instructions.{instruction_at_pc}
use Rattle.explain_core.specs.Trace.{calling_memory, trace_lines, traced_line}
use Rattle.explain_core.specs.Watch.{IsLastChange, Kept, NoneChanges, changes, found_by, keep, keep_all, memory_before, moment_at, moment_of, noticed, watched_in}

pub keep_append : (a : Asked) (k : ℕ) (xs ys : List OwnEvent) (kept : Kept) → keep_all a k (xs ++ ys) kept ≡ keep_all a (k + length xs) ys (keep_all a k xs kept)
keep_append a k [] ys kept = ap (λ n. keep_all a n ys kept) (omega arith)
keep_append a k (x ∷ xs) ys kept =
    let next : suc k + length xs ≡ k + length (x ∷ xs) = omega arith in
    keep_append a (suc k) xs ys (keep a k x kept) ∙ ap (λ n. keep_all a n ys (keep_all a (suc k) xs (keep a k x kept))) next

-- before the first that is asked for nothing is noticed
pub keep_none : (a : Asked) (k : ℕ) (xs : List OwnEvent) (kept : Kept) → k + length xs < a.from → keep_all a k xs kept ≡ kept
keep_none a k [] kept early = refl
keep_none a k (x ∷ xs) kept early =
    let no : nat_le a.from (suc k) ≡ false = grind (arith, nat_tests) in
    rw no (keep_none a (suc k) xs kept (omega (arith, early)))

-- more may be left
abbrev takes_weaker : (levels most more : ℕ) (turn : Turn) (s now : Space) → most ≤ more → TakesTurn levels most turn s now → TakesTurn levels more turn s now
takes_weaker levels most more turn s now up t =
    let within = t.within in
    record { own = t.own; itself = t.itself; count = t.count; within = omega (arith, within, up); first = t.first; last = t.last; below = t.below; fewer = t.fewer; stopped = t.stopped }

-- a turn before the first that is asked for
pub tells_none : (levels most left : ℕ) (a : Asked) (turn : Turn) (old : Kept) (s now : Space) → most ≤ left → a.to - left + 1 + most ≤ a.from → TakesTurn levels most turn s now
    → TellsTurn levels left a turn old old s now
tells_none levels most left a turn old s now fits early t =
    let within = t.within in
    let count = t.count in
    record { takes = takes_weaker levels most left turn s now fits t; kept = sym (keep_none a (a.to - left) t.own old (omega (arith, early, within, count))) }

-- no event
pub tells_nothing : (levels left number : ℕ) (a : Asked) (turn : Turn) (old : Kept) (s now : Space) → 1 ≤ number → number ≤ a.to → left ≡ a.to + 1 - number → turn.events ≡ 0 → TakesTurn levels 1 turn s now
    → TellsTurn levels left a turn old old s now
tells_nothing levels left number a turn old s now some last is none t =
    let count = t.count in
    record { takes = takes_weaker levels 1 left turn s now (omega (arith, some, last, is)) t; kept = empty t.own (omega (arith, count, none)) }
  where
    empty : (xs : List OwnEvent) → length xs ≡ 0 → old ≡ keep_all a (a.to - left) xs old
    empty [] e = refl
    empty (x ∷ xs) e = absurd (omega (arith, e))

-- one event that is asked for
pub tells_one : (levels left number : ℕ) (a : Asked) (turn : Turn) (old new : Kept) (s now : Space) → 1 ≤ number → number ≤ a.to → a.from ≤ number → left ≡ a.to + 1 - number → 0 < turn.events → TakesTurn levels 1 turn s now
    → new ≡ noticed a.path.items a.noticing number (found_by a.noticing (top_of s)) (memory_before a.noticing (top_of s)) (top_of now) old → TellsTurn levels left a turn old new s now
tells_one levels left number a turn old new s now some last asked is one t told =
    let count = t.count in
    let within = t.within in
    record { takes = takes_weaker levels 1 left turn s now (omega (arith, some, last, is)) t; kept = told ∙ the_one t.own (omega (arith, count, within, one)) t.first t.last }
  where
    same : {x y : Top} → Some x ≡ Some y → x ≡ y
    same e = cc

    the_one : (xs : List OwnEvent) → length xs ≡ 1 → StartsWith xs (top_of s) → EndsWith xs (Some (top_of now))
        → noticed a.path.items a.noticing number (found_by a.noticing (top_of s)) (memory_before a.noticing (top_of s)) (top_of now) old ≡ keep_all a (a.to - left) xs old
    the_one [] e first end = absurd (omega (arith, e))
    the_one (x ∷ y ∷ xs) e first end = absurd (omega (arith, e))
    the_one (x ∷ []) e first end =
        let next : number ≡ suc (a.to - left) = omega (arith, some, last, is) in
        let yes : nat_le a.from (suc (a.to - left)) ≡ true = grind (arith, nat_tests) in
        ap₂ (λ n u. noticed a.path.items a.noticing n (found_by a.noticing (top_of s)) (memory_before a.noticing (top_of s)) u old) next (same end)
        ∙ ap (λ t. noticed a.path.items a.noticing (suc (a.to - left)) (found_by a.noticing t) (memory_before a.noticing t) x.after old) (sym first)
        ∙ sym (rw yes refl)

-- in the words of what is known before it happens
pub one_noticed : (p : List ℕ) (w : Noticing) (number : ℕ) (s now : Space) (t u : Top) (cs ds : Children) (f : Found) (m : Option Memory) (old new : Kept) → space t cs ≡ s → space u ds ≡ now → f ≡ found_by w t → m ≡ memory_before w t
    → new ≡ noticed p w number f m u old → new ≡ noticed p w number (found_by w (top_of s)) (memory_before w (top_of s)) (top_of now) old
one_noticed p w number s now t u cs ds f m old new before after found memory is =
    is ∙ ap₂ (λ g n. noticed p w number g n u old) found memory
    ∙ ap₂ (λ (y z : Space). noticed p w number (found_by w (top_of y)) (memory_before w (top_of y)) (top_of z) old) before after

-- what is kept so far, and then of more events
pub kept_then : (a : Asked) (wanted left : ℕ) (old mid new : Kept) (xs ys : List OwnEvent) → wanted ≤ a.to → length xs + left ≡ wanted → mid ≡ keep_all a (a.to - wanted) xs old
    → new ≡ keep_all a (a.to - left) ys mid → new ≡ keep_all a (a.to - wanted) (xs ++ ys) old
kept_then a wanted left old mid new xs ys fits count first last =
    let at : a.to - left ≡ a.to - wanted + length xs = omega (arith, fits, count) in
    last ∙ ap₂ (λ l n. keep_all a n ys l) first at ∙ sym (keep_append a (a.to - wanted) xs ys old)

-- where lines are asked for, these
abbrev with_lines : List ℕ → Kept → Kept
with_lines l kept = record { lines = l; last = kept.last }

pub kept_lines : (a : Asked) (k : ℕ) (xs : List OwnEvent) (kept : Kept) → a.noticing ≡ notice.Lines → keep_all a k xs kept ≡ with_lines (kept.lines ++ trace_lines a.path.items a.from k xs) kept
kept_lines a k [] kept none = ap (λ l. with_lines l kept) (sym (append-nil kept.lines))
kept_lines a k (x ∷ xs) kept none = one (λ v. kept_lines a (suc k) xs v none) (nat_le a.from (suc k)) refl
  where
    line : List ℕ
    line = traced_line a.path.items (suc k) x.before.registers (instruction_at_pc x.before) (calling_memory x.before) x.after

    one : ((v : Kept) → keep_all a (suc k) xs v ≡ with_lines (v.lines ++ trace_lines a.path.items a.from (suc k) xs) v) → (b : Bool) → nat_le a.from (suc k) ≡ b
        → keep_all a k (x ∷ xs) kept ≡ with_lines (kept.lines ++ trace_lines a.path.items a.from k (x ∷ xs)) kept
    one later false early = rw early (later kept)
    one later true asked =
        rw (asked, none) (later (with_lines (kept.lines ++ line) kept)
        ∙ ap (λ l. with_lines l kept) (append_assoc kept.lines line (trace_lines a.path.items a.from (suc k) xs)))

-- the last of own events that changed what is watched is kept, or what was kept before, where none of them did
pub record KeepsLast (w : Watched) (k : ℕ) (xs : List OwnEvent) (now : Kept) : Type 0 where
  pub number : ℕ
  pub event : OwnEvent
  pub is_last : IsLastChange w xs number event
  pub kept : now.last ≡ Some (moment_at w (suc (k + number)) event)

first_kept : (w : Watched) (k : ℕ) (e : OwnEvent) → suc k ≡ suc (k + 0) → Some (moment_of w (suc k) (found_by (notice.Change w) e.before) e.after) ≡ Some (moment_at w (suc (k + 0)) e)
unfolding moment_at
first_kept w k e next = ap (λ n. Some (moment_of w n (found_by (notice.Change w) e.before) e.after)) next

pub keep_last : (a : Asked) (w : Watched) (k : ℕ) (xs : List OwnEvent) (kept : Kept) → a.noticing ≡ notice.Change w → a.from ≤ 1 → KeepsLast w k xs (keep_all a k xs kept) ⊎ (NoneChanges w xs × (keep_all a k xs kept ≡ kept))
keep_last a w k [] kept is all = inr (λ j e here. cc, refl)
keep_last a w k (x ∷ xs) kept is all = onward (keep_last a w (suc k) xs (keep a k x kept) is all) (changes w x) refl
  where
    yes : nat_le a.from (suc k) ≡ true
    yes = grind (arith, nat_tests)

    behind : NoneChanges w xs → (j : ℕ) (f : OwnEvent) → 0 < j → slice_get (x ∷ xs) j ≡ Some f → changes w f ≡ false
    behind none zero f past here = absurd (omega (arith, past))
    behind none (suc j) f past here = none j f here

    never : changes w x ≡ false → NoneChanges w xs → NoneChanges w (x ∷ xs)
    never e none zero f here = let same : x ≡ f = cc in ap (changes w) (sym same) ∙ e
    never e none (suc j) f here = none j f here

    same_test : (b : Bool) → not b ≡ false → b ≡ true
    same_test true e = refl
    same_test false e = cc

    other_test : (b : Bool) → not b ≡ true → b ≡ false
    other_test false e = refl
    other_test true e = cc

    later_last : (n : ℕ) (e : OwnEvent) → IsLastChange w xs n e → (j : ℕ) (f : OwnEvent) → suc n < j → slice_get (x ∷ xs) j ≡ Some f → changes w f ≡ false
    later_last n e l zero f past here = absurd (omega (arith, past))
    later_last n e l (suc j) f past here = l.last j f (omega (arith, past)) here

    later : (n : ℕ) (e : OwnEvent) → IsLastChange w xs n e → IsLastChange w (x ∷ xs) (suc n) e
    later n e l = record { event = l.event; changed = l.changed; last = later_last n e l }

    onward : KeepsLast w (suc k) xs (keep_all a (suc k) xs (keep a k x kept)) ⊎ (NoneChanges w xs × (keep_all a (suc k) xs (keep a k x kept) ≡ keep a k x kept)) → (b : Bool) → changes w x ≡ b
        → KeepsLast w k (x ∷ xs) (keep_all a k (x ∷ xs) kept) ⊎ (NoneChanges w (x ∷ xs) × (keep_all a k (x ∷ xs) kept ≡ kept))
    onward (inl l) b e =
        let next : suc (suc k + l.number) ≡ suc (k + suc l.number) = omega arith in
        inl (record { number = suc l.number; event = l.event; is_last = later l.number l.event l.is_last; kept = l.kept ∙ ap (λ n. Some (moment_at w n l.event)) next })
    onward (inr r) true e =
        let test = other_test (watched_in w x.after == watched_in w x.before) e in
        let next : suc k ≡ suc (k + 0) = omega arith in
        inl (record {
          number = 0;
          event = x;
          is_last = record { event = refl; changed = e; last = behind r.0 };
          kept = ap (λ (v : Kept). v.last) r.1 ∙ rw (yes, is, test) (first_kept w k x next);
        })
    onward (inr r) false e =
        let test = same_test (watched_in w x.after == watched_in w x.before) e in
        inr (never e r.0, r.1 ∙ rw (yes, is, test) refl)

-- a list that has all of another begins with it
pub front : (xs ys : List OwnEvent) → ((k : ℕ) (e : OwnEvent) → slice_get ys k ≡ Some e → slice_get xs k ≡ Some e) → take (length ys) xs ≡ ys
front xs [] all = refl
front [] (y ∷ ys) all = let e = all 0 y refl in cc
front (x ∷ xs) (y ∷ ys) all =
    let first : Some x ≡ Some y = all 0 y refl in
    let same : x ≡ y = cc in
    ap₂ (λ z zs. z ∷ zs) same (front xs ys (λ k. all (suc k)))
