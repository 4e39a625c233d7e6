-- A stretch of instructions of a space that is watched, as own events of which the last that changed what is watched is kept.
use Rattle.std.proofs.Common.{◌≡◌, ℕ, zero, suc, ◌+◌, ◌-◌, ◌<◌, ◌≤◌, Bool, true, false, List, [], ◌∷◌, ◌++◌, length, length-append, Option, Some, None, if◌then◌else◌, Ok, refl, sym, ap, ap₂, ◌∙◌, subst, arith, add-one}
use Rattle.std.proofs.lemmas.Bool.Decides.{nat_tests}
use Rattle.std.specs.Prelude.{◌==◌, nat_le}
use Rattle.memory_model.specs.Memory.{Memory, with_number}
use Rattle.instruction_model.specs.Outcome.{Registers, Outcome, goes, stores, calls, traps, view_of, outcome}
use Rattle.rv_exec.specs.declared.stepping.Stepped.TheVariants.{Next}
use Rattle.rv_exec.specs.Steps.{Steps, registers_at}
use Rattle.space_model.specs.declared.Status.{Status}
use Rattle.space_model.specs.declared.Status.TheVariants.{Running}
use Rattle.space_model.specs.Space.{Top, Space, space, Children, top_of}
use Rattle.space_model.specs.Change.{after_spending}
use Rattle.space_model.specs.Event.{next, moves, charge, Follows, MayPay}
use Rattle.space_step.specs.Stretch.{Pays, Executes, IsDone}
use Rattle.space_step.proofs.Events.{next_pays}
use Rattle.space_step.proofs.Following.{instruction_done, may_pay_after, one_more, pays_for_part, stretch_follows, stretch_starts}
use Rattle.run_model.specs.Demand.{left_of}
use Rattle.demand_eval.specs.Turns.{IsSoundBelow}
use Rattle.demand_eval.proofs.Turns.{advanced}
use Rattle.event_laws.specs.OwnEvents.{OwnEvent}
use Rattle.explain_core.specs.declared.stretch.Stretch.{Stretch}
use Rattle.explain_core.specs.declared.stretch.Trail.{Trail}
use Rattle.explain_core.specs.declared.watching.Asked.{Asked}
use Rattle.explain_core.specs.declared.watching.Moment.{Moment}
use Rattle.explain_core.specs.declared.watching.Noticing.TheVariants as notice
use Rattle.explain_core.specs.declared.watching.Watched.{Watched}
use Rattle.explain_core.specs.Going.{GoesBy, StartsWith, EndsWith, TellsTurn}
use Rattle.explain_core.specs.Instructions.{instruction_in, word_in}
use Rattle.explain_core.specs.Stretch.{KeepsUp, Watches, WatchesFrom, found_in, given_back, last_in, last_of, moment_between, noted, with_parts}
use Rattle.explain_core.specs.Watch.{Kept, found_by, keep, keep_all, moment_of, value_in, watched_in, with_last}
use Rattle.explain_core.proofs.Schedules.{goes_then, stays}
use Rattle.explain_core.proofs.Traces.{keep_append}
use Rattle.explain_core.proofs.Turns.{ends_append, follows_below, local_event, starts_append}

-- an instruction that was done, by its own outcome
pub step_is_done : (takes : Bool) (o p : Outcome) (r s : Registers) (m n : Memory) → o ≡ p → Steps with_number takes p (Ok Next) r m s n → IsDone o m s n
step_is_done takes o (goes t) r s m n is h = subst (λ q. IsDone q m s n) (sym is) h
step_is_done takes o (stores t at width value) r s m n is h = subst (λ q. IsDone q m s n) (sym is) h
step_is_done takes o calls r s m n is h = absurd h
step_is_done takes o (traps number value) r s m n is h = absurd h

equal_numbers : (x y : ℕ) → (x == y) ≡ true → x ≡ y
equal_numbers x y e = grind (arith, nat_tests)

-- a trail that has noted an instruction which may change what is watched
pub keeps_up : (w : Watched) (number p q : ℕ) (x y : List ℕ) (m n : Memory) (old new : Trail) → old.value ≡ value_in w x m → given_back w y (value_in w x m) ≡ x
    → new ≡ noted old (value_in w y n) number p (word_in m p) q y → KeepsUp w number (registers_at p x) m (registers_at q y) n old new
keeps_up w number p q x y m n old new now back is = subst (KeepsUp w number (registers_at p x) m (registers_at q y) n old) (sym is) (by_test (value_in w y n == old.value) refl)
  where
    after : Trail
    after = record { value = value_in w y n; changed = true; number = number; at = p; word = word_in m p; found = old.value; pc = q; x = y }

    seen : List ℕ → ℕ → Option Moment
    seen z v = Some (moment_between w number (record { registers = registers_at p z; instruction = instruction_in m p; value = v }) (registers_at q y) n)

    same : (b : Bool) → (value_in w y n == old.value) ≡ b → (if b then last_in w old else seen x (value_in w x m)) ≡ last_of w number (registers_at p x) m (registers_at q y) n (last_in w old)
    same b e = sym (ap (λ c. if c then last_in w old else seen x (value_in w x m)) (ap (λ v. value_in w y n == v) (sym now) ∙ e))

    by_test : (b : Bool) → (value_in w y n == old.value) ≡ b → KeepsUp w number (registers_at p x) m (registers_at q y) n old (if b then old else after)
    by_test true e = record { value = sym (equal_numbers (value_in w y n) old.value e); last = same true e }
    by_test false e = record { value = refl; last = ap (λ v. seen (given_back w y v) v) now ∙ ap (λ z. seen z (value_in w x m)) back ∙ same false e }

same_number : (x y : ℕ) → x ≡ y → (x == y) ≡ true
same_number x y e = grind (arith, nat_tests)

-- and one that stays as it was, where an instruction leaves what is watched as it is
pub stays_up : (w : Watched) (number : ℕ) (r s : Registers) (m n : Memory) (t : Trail) → t.value ≡ value_in w r.x m → value_in w s.x n ≡ value_in w r.x m → KeepsUp w number r m s n t t
stays_up w number r s m n t now same = record {
  value = now ∙ sym same;
  last = sym (ap (λ b. if b then last_in w t else Some (moment_between w number (found_in w r m) s n)) (same_number (value_in w s.x n) (value_in w r.x m) same));
}

-- one instruction more
pub watches_more : (w : Watched) (first count : ℕ) (r q s : Registers) (m k n : Memory) (before last : Option Moment) → Watches w first count r m q k before
    → IsDone (outcome (view_of k) q) k s n → last ≡ last_of w (first + count) q k s n before → Watches w first (count + 1) r m s n last
watches_more w first count r q s m k n before last h done is = rw add-one (q, k, before, h, done, is)

-- what is watched leaves as many instructions
pub watches_executes : (w : Watched) (first n : ℕ) (r : Registers) (m : Memory) (s : Registers) (k : Memory) (last : Option Moment) → Watches w first n r m s k last → Executes n r m s k
watches_executes w first zero r m s k last h = (h.0, h.1)
watches_executes w first (suc n) r m s k last h = (h.0, h.1, watches_executes w first n r m h.0 h.1 h.2 h.3, h.4)

-- so many own events, which are those of the stretch
record Own (levels n first : ℕ) (w : Watched) (t u : Top) (cs : Children) (last : Option Moment) : Type 0 where
  own : List OwnEvent
  goes : GoesBy levels [] own (space t cs) (space u cs)
  count : length own ≡ n
  start : StartsWith own t
  end : EndsWith own (Some u)
  kept : (a : Asked) (k : ℕ) (old : Kept) → a.noticing ≡ notice.Change w → a.from ≤ suc k → first ≡ suc k → keep_all a k own old ≡ with_last last old

-- a space behind so many instructions
abbrev behind : ℕ → Top → Registers → Memory → Top
behind n t r m = after_spending n t (with_parts t r m)

last_then : (b : Bool) (before : Option Moment) (m : Moment) (old : Kept) → (if b then with_last before old else with_last (Some m) (with_last before old)) ≡ with_last (if b then before else Some m) old
last_then true before m old = refl
last_then false None m old = refl
last_then false (Some n) m old = refl

-- one event more is kept
keep_one : (a : Asked) (w : Watched) (k : ℕ) (e : OwnEvent) (before : Option Moment) (m : Moment) (old : Kept) → a.noticing ≡ notice.Change w → a.from ≤ suc k → moment_of w (suc k) (found_by (notice.Change w) e.before) e.after ≡ m
    → keep a k e (with_last before old) ≡ with_last (if watched_in w e.after == watched_in w e.before then before else Some m) old
keep_one a w k e before m old watched from is =
    let yes : nat_le a.from (suc k) ≡ true = grind (arith, nat_tests) in
    rw (yes, watched) (last_then (watched_in w e.after == watched_in w e.before) before (moment_of w (suc k) (found_by (notice.Change w) e.before) e.after) old)
    ∙ ap (λ x. with_last (if watched_in w e.after == watched_in w e.before then before else Some x) old) is

own_watched : (levels first n : ℕ) (w : Watched) (t : Top) (cs : Children) (r : Registers) (m : Memory) (last : Option Moment) → t.status ≡ Running → Pays n t → Watches w first n t.registers t.memory r m last
    → Own levels n first w t (behind n t r m) cs last
own_watched levels first zero w t cs r m last running pays h =
    let same : behind 0 t r m ≡ t = stretch_starts t r m h.0 h.1 in
    record {
      own = [];
      goes = subst (λ u. GoesBy levels [] [] (space t cs) (space u cs)) (sym same) (stays levels [] (space t cs));
      count = refl;
      start = tt;
      end = tt;
      kept = λ a k old watched from is. ap (λ o. with_last o old) (sym h.2);
    }
own_watched levels first (suc n) w t cs r m last running pays h =
    let q = h.0 in
    let k = h.1 in
    let before = h.2 in
    let u = behind n t q k in
    let v = behind (suc n) t r m in
    let rest = own_watched levels first n w t cs q k before running (pays_for_part n (suc n) t (omega arith) pays) h.3 in
    let may : MayPay u = may_pay_after t q k n (suc n) running (omega arith) pays in
    let step : next levels u ≡ moves v = next_pays levels u may ∙ ap (charge u) (instruction_done levels u r m _ h.4) ∙ ap moves (one_more t n q r k m) in
    let e : OwnEvent = record { before = u; sees = []; after = v } in
    let count = rest.count in
    record {
      own = rest.own ++ e ∷ [];
      goes = goes_then levels [] rest.own (e ∷ []) (space t cs) (space u cs) (space v cs) rest.goes (local_event levels u v cs step);
      count = length-append rest.own (e ∷ []) ∙ omega (arith, count);
      start = starts_append rest.own (e ∷ []) t rest.start (λ none. from_start n q k before (sym count ∙ none) h.3);
      end = ends_append rest.own (e ∷ []) (Some v) (omega arith) refl;
      kept = λ a j old watched from is.
          let at : first + n ≡ suc (j + length rest.own) = omega (arith, is, count) in
          keep_append a j rest.own (e ∷ []) old ∙ ap (keep a (j + length rest.own) e) (rest.kept a j old watched from is)
          ∙ keep_one a w (j + length rest.own) e before (moment_between w (first + n) (found_in w q k) r m) old watched (omega (arith, from)) (moment (first + n) (suc (j + length rest.own)) q k at) ∙ ap (λ o. with_last o old) (sym h.5);
    }
  where
    from_start : (n : ℕ) (q : Registers) (k : Memory) (before : Option Moment) → n ≡ 0 → Watches w first n t.registers t.memory q k before → behind n t q k ≡ t
    from_start zero q k before none h = stretch_starts t q k h.0 h.1
    from_start (suc n) q k before none h = absurd (omega (arith, none))

    moment : (number later : ℕ) (q : Registers) (k : Memory) → number ≡ later
        → moment_of w later (found_by (notice.Change w) (behind n t q k)) (behind (suc n) t r m) ≡ moment_between w number (found_in w q k) r m
    moment number later q k at = ap₂ (λ (x : ℕ) (y : Status). record { number = x; found = found_in w q k; after = r; status = y; value = value_in w r.x m }) (sym at) running

-- nothing has changed where there was none
pub unwatched : (w : Watched) (first most : ℕ) (s : Stretch) (t u : Top) → WatchesFrom w first most s t u → s.count ≡ 0 → u ≡ t
unwatched w first most s t u h none = h.paid ∙ ap (λ n. behind n t u.registers u.memory) none ∙ stretch_starts t u.registers u.memory (parts.0) (parts.1)
  where
    parts : (u.registers ≡ t.registers) × (u.memory ≡ t.memory)
    parts = let z = subst (λ n. Watches w first n t.registers t.memory u.registers u.memory s.last) none h.done in (z.0, z.1)

-- a turn of such instructions
pub watched_turn : (levels left first most : ℕ) (a : Asked) (w : Watched) (stretch : Stretch) (old new : Kept) (t u : Top) (cs : Children) (s now : Space) → IsSoundBelow levels s → space t cs ≡ s → space u cs ≡ now
    → t.status ≡ Running → WatchesFrom w first most stretch t u → most ≤ left → 1 ≤ left → left ≤ a.to → first ≡ a.to - left + 1 → a.from ≤ first → a.noticing ≡ notice.Change w → (stretch.count ≡ 0 → ⊥)
    → new ≡ with_last stretch.last old → TellsTurn levels left a (record { events = stretch.count; stopped = false }) old new s now
watched_turn levels left first most a w stretch old new t u cs s now ok is after running watches fits some within number from watched more kept =
    let l = own_watched levels first stretch.count w t cs u.registers u.memory stretch.last running watches.pays watches.done in
    let follows : Follows levels stretch.count t (behind stretch.count t u.registers u.memory) =
    stretch_follows levels stretch.count t u.registers u.memory running watches.pays (watches_executes w first stretch.count t.registers t.memory u.registers u.memory stretch.last watches.done) in
    let there : space (behind stretch.count t u.registers u.memory) cs ≡ now = ap (λ v. space v cs) (sym watches.paid) ∙ after in
    let on = advanced levels stretch.count t (behind stretch.count t u.registers u.memory) cs s ok is follows (omega (arith, more)) in
    let few = watches.within in
    record {
      takes = record {
        own = l.own;
        itself = subst (λ r. GoesBy levels [] l.own s r) there (subst (λ r. GoesBy levels [] l.own r (space (behind stretch.count t u.registers u.memory) cs)) is l.goes);
        count = l.count;
        within = omega (arith, few, fits);
        first = subst (λ v. StartsWith l.own (top_of v)) is l.start;
        last = subst (λ v. EndsWith l.own (Some (top_of v))) there l.end;
        below = λ n p still. subst (λ r. GoesBy levels (n ∷ p) [] s r) there (subst (λ r. GoesBy levels (n ∷ p) [] r (space (behind stretch.count t u.registers u.memory) cs)) is (follows_below levels stretch.count n p t (behind stretch.count t u.registers u.memory) cs follows));
        fewer = λ e. subst (λ v. left_of (top_of v) < left_of (top_of s)) there on.fewer;
        stopped = λ e. cc;
      };
      kept = kept ∙ sym (l.kept a (a.to - left) old watched (omega (arith, from, number)) (omega (arith, number)));
    }
