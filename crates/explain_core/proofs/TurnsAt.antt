-- Turns of one space of a tree: a stretch of its instructions that is watched, and one event at its path.
use Rattle.std.proofs.Common.{◌≡◌, ℕ, zero, suc, pred, ◌+◌, ◌<◌, Bool, true, false, List, [], ◌∷◌, ◌++◌, map, length, length-append, Option, Some, None, cond, if◌then◌else◌, refl, sym, ap, ap₂, ◌∙◌, subst, arith, inl, inr, ◌⊎◌, true≢false}
use Rattle.std.proofs.lemmas.Bool.Decides.{nat_tests}
use Rattle.std.proofs.lemmas.Bool.{cases_eq}
use Rattle.std.specs.List.{slice_get}
use Rattle.std.specs.Prelude.{◌==◌, not, option_map}
use Rattle.memory_model.specs.Memory.{Memory}
use Rattle.instruction_model.specs.Outcome.{Registers}
use Rattle.space_model.specs.declared.Status.{Status}
use Rattle.space_model.specs.declared.Status.TheVariants.{Running}
use Rattle.space_model.specs.Space.{Top, Space, space, Children, top_of, find, over}
use Rattle.space_model.specs.Change.{after_spending}
use Rattle.space_model.specs.Event.{next, moves, charge, MayPay}
use Rattle.space_model.specs.Path.{at}
use Rattle.space_step.specs.Stretch.{Pays}
use Rattle.space_step.proofs.Events.{next_pays}
use Rattle.space_step.proofs.Following.{instruction_done, may_pay_after, one_more, pays_for_part, stretch_starts}
use Rattle.run_model.specs.Replay.{replay}
use Rattle.run_model.specs.Schedule.{is_enabled, step, try_step}
use Rattle.det_laws.specs.Tops.{top_at}
use Rattle.event_laws.specs.OwnEvents.{OwnEvent, and_others, is_same_path, own_event_at, own_events}
use Rattle.event_laws.proofs.Histories.{event_there, is_own}
use Rattle.explain_core.specs.declared.stretch.Stretch.{Stretch}
use Rattle.explain_core.specs.declared.watching.Found.{Found}
use Rattle.explain_core.specs.declared.watching.Moment.{Moment}
use Rattle.explain_core.specs.declared.watching.Noticing.TheVariants as notice
use Rattle.explain_core.specs.declared.watching.Watched.{Watched}
use Rattle.explain_core.specs.Going.{own_below}
use Rattle.explain_core.specs.Stretch.{Watches, WatchesFrom, found_in, moment_between, with_parts}
use Rattle.explain_core.specs.TurnsAt.{HasLastFrom, TurnsAt}
use Rattle.explain_core.specs.Watch.{NoneChanges, changes, found_by, moment_at, moment_of, value_in, watched_in}
use Rattle.explain_core.proofs.LinksTell.{last_still, last_then, none_then}
use Rattle.explain_core.proofs.Schedules.{own_elsewhere, own_of_child, own_parts, replay_below, replay_parts}

-- ---- one turn, and then another

-- of two, the later one that there is
abbrev later : Option Moment → Option Moment → Option Moment
later before None = before
later before (Some m) = Some m

has_last_then : (w : Watched) (before : ℕ) (xs ys : List OwnEvent) (o r : Option Moment) → HasLastFrom w before xs o → HasLastFrom w (before + length xs) ys r → HasLastFrom w before (xs ++ ys) (later o r)
has_last_then w before xs ys None None first second = none_then w xs ys first second
has_last_then w before xs ys (Some m) None (k, e, last, is) second = (k, e, last_still w xs ys k e last second, is)
has_last_then w before xs ys o (Some m) first (k, e, last, is) =
    let number : suc (before + length xs + k) ≡ suc (before + (length xs + k)) = omega arith in
    (length xs + k, e, last_then w xs ys k e last, is ∙ ap (λ n. moment_at w n e) number)

turn_then : (levels : ℕ) (w : Watched) (p : List ℕ) (before n m : ℕ) (o r : Option Moment) (s t u : Space) → TurnsAt levels w p before n o s t → TurnsAt levels w p (before + n) m r t u → TurnsAt levels w p before (n + m) (later o r) s u
turn_then levels w p before n m o r s t u a b =
    let first = a.long in
    let second = b.long in
    record {
      schedule = a.schedule ++ b.schedule;
      own = a.own ++ b.own;
      leads = replay_parts a.schedule b.schedule levels s ∙ ap (replay b.schedule levels) a.leads ∙ b.leads;
      events = own_parts levels p a.schedule b.schedule s ∙ ap₂ (λ v x. v ++ x) a.events (ap (own_below levels p b.schedule) a.leads ∙ b.events);
      others = λ q away. own_parts levels q a.schedule b.schedule s ∙ ap₂ (λ v x. v ++ x) (a.others q away) (ap (own_below levels q b.schedule) a.leads ∙ b.others q away);
      long = length-append a.own b.own ∙ omega (arith, first, second);
      told = has_last_then w before a.own b.own o r a.told (subst (λ k. HasLastFrom w (before + k) b.own r) (sym a.long) b.told);
    }

no_turn : (levels : ℕ) (w : Watched) (p : List ℕ) (before : ℕ) (s : Space) → TurnsAt levels w p before 0 None s s
no_turn levels w p before s = record { schedule = []; own = []; leads = refl; events = refl; others = λ q away. refl; long = refl; told = λ k e is. cc }

pub nothing_happens : (levels : ℕ) (w : Watched) (p : List ℕ) (before count : ℕ) (last : Option Moment) (s now : Space) → count ≡ 0 → last ≡ None → now ≡ s → TurnsAt levels w p before count last s now
nothing_happens levels w p before count last s now none nothing same =
    subst (λ u. TurnsAt levels w p before count last s u) (sym same) (subst (λ o. TurnsAt levels w p before count o s s) (sym nothing) (subst (λ n. TurnsAt levels w p before n None s s) (sym none) (no_turn levels w p before s)))

-- ---- one event

-- the event, where it changed what is watched
abbrev pub changed_in : Watched → ℕ → Top → Top → Option Moment
changed_in w number t u = if watched_in w u == watched_in w t then None else Some (moment_of w number (found_by (notice.Change w) t) u)

its_moment : (w : Watched) (before : ℕ) (e : OwnEvent) → moment_of w (suc before) (found_by (notice.Change w) e.before) e.after ≡ moment_at w (suc (before + 0)) e
unfolding moment_at
its_moment w before e = let same : suc before ≡ suc (before + 0) = omega arith in ap (λ n. moment_of w n (found_by (notice.Change w) e.before) e.after) same

alone : (w : Watched) (before : ℕ) (e : OwnEvent) → HasLastFrom w before (e ∷ []) (changed_in w (suc before) e.before e.after)
alone w before e = by_test (watched_in w e.after == watched_in w e.before) refl
  where
    one : (f : OwnEvent) → Some e ≡ Some f → e ≡ f
    one f same = cc

    never : changes w e ≡ false → NoneChanges w (e ∷ [])
    never still zero f is = ap (changes w) (sym (one f is)) ∙ still
    never still (suc k) f is = cc

    behind : (j : ℕ) (f : OwnEvent) → 0 < j → slice_get (e ∷ []) j ≡ Some f → changes w f ≡ false
    behind zero f past is = absurd (omega (arith, past))
    behind (suc j) f past is = cc

    by_test : (b : Bool) → (watched_in w e.after == watched_in w e.before) ≡ b → HasLastFrom w before (e ∷ []) (if b then None else Some (moment_of w (suc before) (found_by (notice.Change w) e.before) e.after))
    by_test true same = never (ap not same)
    by_test false other = (0, e, record { event = refl; changed = ap not other; last = behind }, its_moment w before e)

local_turn : (levels : ℕ) (w : Watched) (before : ℕ) (t v : Top) (cs : Children) → next levels t ≡ moves v → TurnsAt levels w [] before 1 (changed_in w (suc before) t v) (space t cs) (space v cs)
local_turn levels w before t v cs is =
    let e : OwnEvent = record { before = t; sees = []; after = v } in record {
      schedule = [] ∷ [];
      own = e ∷ [];
      leads = rw is refl;
      events = rw is refl;
      others = elsewhere;
      long = refl;
      told = alone w before e;
    }
  where
    elsewhere : (q : List ℕ) → (q ≡ [] → ⊥) → own_below levels q ([] ∷ []) (space t cs) ≡ []
    elsewhere [] away = absurd (away refl)
    elsewhere (m ∷ q) away = refl

-- ---- a stretch of instructions

-- a space behind so many instructions
abbrev behind : ℕ → Top → Registers → Memory → Top
behind n t r m = after_spending n t (with_parts t r m)

one_later : (b : Bool) (before : Option Moment) (m : Moment) → later before (if b then None else Some m) ≡ (if b then before else Some m)
one_later true before m = refl
one_later false before m = refl

stretch_turn : (levels before n : ℕ) (w : Watched) (t : Top) (cs : Children) (r : Registers) (m : Memory) (last : Option Moment) → t.status ≡ Running → Pays n t → Watches w (before + 1) n t.registers t.memory r m last
    → TurnsAt levels w [] before n last (space t cs) (space (behind n t r m) cs)
stretch_turn levels before zero w t cs r m last running pays h = nothing_happens levels w [] before 0 last (space t cs) (space (behind 0 t r m) cs) refl h.2 (ap (λ v. space v cs) (stretch_starts t r m h.0 h.1))
stretch_turn levels before (suc n) w t cs r m last running pays h =
    let q = h.0 in
    let k = h.1 in
    let mid = h.2 in
    let u = behind n t q k in
    let v = behind (suc n) t r m in
    let rest = stretch_turn levels before n w t cs q k mid running (pays_for_part n (suc n) t (omega arith) pays) h.3 in
    let may : MayPay u = may_pay_after t q k n (suc n) running (omega arith) pays in
    let step : next levels u ≡ moves v = next_pays levels u may ∙ ap (charge u) (instruction_done levels u r m _ h.4) ∙ ap moves (one_more t n q r k m) in
    let both = turn_then levels w [] before n 1 mid (changed_in w (suc (before + n)) u v) (space t cs) (space u cs) (space v cs) rest (local_turn levels w (before + n) u v cs step) in
    let count : n + 1 ≡ suc n = omega arith in
    let number : before + 1 + n ≡ suc (before + n) = omega arith in
    let told = one_later (value_in w r.x m == value_in w q.x k) mid (moment_of w (suc (before + n)) (found_by (notice.Change w) u) v)
    ∙ ap (λ x. if value_in w r.x m == value_in w q.x k then mid else Some x) (moment (before + 1 + n) (suc (before + n)) q k number) ∙ sym h.5 in
    subst (λ o. TurnsAt levels w [] before (suc n) o (space t cs) (space v cs)) told (subst (λ i. TurnsAt levels w [] before i (later mid (changed_in w (suc (before + n)) u v)) (space t cs) (space v cs)) count both)
  where
    moment : (number later : ℕ) (q : Registers) (k : Memory) → number ≡ later
        → moment_of w later (found_by (notice.Change w) (behind n t q k)) (behind (suc n) t r m) ≡ moment_between w number (found_in w q k) r m
    moment number later q k at = ap₂ (λ (x : ℕ) (y : Status). record { number = x; found = found_in w q k; after = r; status = y; value = value_in w r.x m }) (sym at) running

pub watched_stretch : (levels before most : ℕ) (w : Watched) (stretch : Stretch) (t u : Top) (cs : Children) (s now : Space) → space t cs ≡ s → space u cs ≡ now → t.status ≡ Running → WatchesFrom w (before + 1) most stretch t u
    → TurnsAt levels w [] before stretch.count stretch.last s now
watched_stretch levels before most w stretch t u cs s now is after running watches =
    let turn = stretch_turn levels before stretch.count w t cs u.registers u.memory stretch.last running watches.pays watches.done in
    let there : space (behind stretch.count t u.registers u.memory) cs ≡ now = ap (λ v. space v cs) (sym watches.paid) ∙ after in
    subst (λ r. TurnsAt levels w [] before stretch.count stretch.last s r) there (subst (λ r. TurnsAt levels w [] before stretch.count stretch.last r (space (behind stretch.count t u.registers u.memory) cs)) is turn)

-- ---- of a child

other_number : (n m : ℕ) (p q : List ℕ) → (m ≡ n → ⊥) → is_same_path (m ∷ p) (n ∷ q) ≡ false
other_number n m p q away = grind (arith, nat_tests)

child_turn : (levels n : ℕ) (w : Watched) (p : List ℕ) (before count : ℕ) (last : Option Moment) (t : Top) (cs : Children) (c d : Space) → find n cs ≡ Some c → TurnsAt (pred levels) w p before count last c d
    → TurnsAt levels w (n ∷ p) before count last (space t cs) (space t (over n (λ x. d) cs))
child_turn levels n w p before count last t cs c d is a = record {
  schedule = map (λ q. n ∷ q) a.schedule;
  own = a.own;
  leads = replay_below a.schedule levels n t cs c is ∙ ap (λ x. space t (over n (λ y. x) cs)) a.leads;
  events = own_of_child a.schedule levels n p t cs c is ∙ a.events;
  others = elsewhere;
  long = a.long;
  told = a.told;
}
  where
    elsewhere : (q : List ℕ) → (q ≡ n ∷ p → ⊥) → own_below levels q (map (λ r. n ∷ r) a.schedule) (space t cs) ≡ []
    elsewhere [] away = own_elsewhere a.schedule levels n [] (space t cs) (λ q. refl)
    elsewhere (m ∷ q) away = go (cases_eq m n)
      where
        go : (m ≡ n) ⊎ (m ≡ n → ⊥) → own_below levels (m ∷ q) (map (λ r. n ∷ r) a.schedule) (space t cs) ≡ []
        go (inl e) =
            ap (λ i. own_below levels (i ∷ q) (map (λ r. n ∷ r) a.schedule) (space t cs)) e
            ∙ own_of_child a.schedule levels n q t cs c is
            ∙ a.others q (λ same. away (ap₂ (λ i is. i ∷ is) e same))
        go (inr apart) = own_elsewhere a.schedule levels n (m ∷ q) (space t cs) (λ r. other_number n m q r apart)

pub turn_of_child : (levels n : ℕ) (w : Watched) (p : List ℕ) (before count : ℕ) (last : Option Moment) (t : Top) (s c d : Space) (cs : Children) → space t cs ≡ s → Some c ≡ find n cs → TurnsAt (pred levels) w p before count last c d
    → TurnsAt levels w (n ∷ p) before count last s (space t (over n (λ x. d) cs))
turn_of_child levels n w p before count last t s c d cs is found a =
    subst (λ r. TurnsAt levels w (n ∷ p) before count last r (space t (over n (λ x. d) cs))) is (child_turn levels n w p before count last t cs c d (sym found) a)

-- ---- one event at a path

pub same_itself : (p : List ℕ) → is_same_path p p ≡ true
same_itself [] = refl
same_itself (n ∷ p) = grind (arith, nat_tests, same_itself p)

pub same_path : (p q : List ℕ) → is_same_path p q ≡ true → p ≡ q
same_path [] [] h = refl
same_path [] (m ∷ q) h = cc
same_path (n ∷ p) [] h = cc
same_path (n ∷ p) (m ∷ q) h = ap₂ (λ i is. i ∷ is) (grind (arith, nat_tests)) (same_path p q (grind (arith, nat_tests)))

pub other_path : (p q : List ℕ) → (p ≡ q → ⊥) → is_same_path p q ≡ false
other_path p q ne = go (is_same_path p q) refl
  where
    go : (b : Bool) → is_same_path p q ≡ b → b ≡ false
    go false is = refl
    go true is = absurd (ne (same_path p q is))

-- where an event may happen there is an own event
pub own_here : (p : List ℕ) (s : Space) → is_enabled p 8 s ≡ true → (e : OwnEvent) × (own_event_at p 8 s ≡ Some e)
own_here p s may = go (own_event_at p 8 s) refl
  where
    none : own_event_at p 8 s ≡ None → own_events p (p ∷ []) s ≡ []
    none is = by_path (is_same_path p p)
      where
        by_path : (b : Bool) → and_others (if b then own_event_at p 8 s else None) [] ≡ []
        by_path true = rw is refl
        by_path false = refl

    lost : (e : OwnEvent) → slice_get (own_events p (p ∷ []) s) 0 ≡ Some e → own_events p (p ∷ []) s ≡ [] → ⊥
    lost e some empty = let gone = ap (λ xs. slice_get xs 0) empty in cc

    go : (o : Option OwnEvent) → own_event_at p 8 s ≡ o → (e : OwnEvent) × (own_event_at p 8 s ≡ Some e)
    go None is = let h = is_own [] [] p s may in absurd (lost h.0 h.1 (none is))
    go (Some e) is = (e, is)

pub stepped_to : (p : List ℕ) (s now : Space) → is_enabled p 8 s ≡ true → now ≡ try_step p 8 s → step p 8 s ≡ now
stepped_to p s now may stepped = sym (stepped ∙ ap (λ b. cond b (step p 8 s) s) may)

same : {x y : Top} → Some x ≡ Some y → x ≡ y
same e = cc

event_turn : (w : Watched) (p : List ℕ) (before : ℕ) (last : Option Moment) (s now t u : Space) → is_enabled p 8 s ≡ true → now ≡ try_step p 8 s → at p s ≡ Some t → at p now ≡ Some u → last ≡ changed_in w (before + 1) (top_of t) (top_of u)
    → TurnsAt 8 w p before 1 last s now
event_turn w p before last s now t u may stepped first second is =
    let here = own_here p s may in
    let e = here.0 in
    let found = here.1 in
    let h = event_there p 8 s e found in
    let was : top_of t ≡ e.before = same (sym (ap (option_map top_of) first) ∙ h.1) in
    let after : top_of u ≡ e.after = same (sym (ap (option_map top_of) second) ∙ ap (top_at p) (sym (stepped_to p s now may stepped)) ∙ h.2) in
    let number : before + 1 ≡ suc before = omega arith in
    record {
      schedule = p ∷ [];
      own = e ∷ [];
      leads = sym stepped;
      events = rw (same_itself p, found) refl;
      others = λ q away. rw (other_path q p away) refl;
      long = refl;
      told = subst (HasLastFrom w before (e ∷ [])) (sym (is ∙ ap (λ n. changed_in w n (top_of t) (top_of u)) number ∙ ap₂ (changed_in w (suc before)) was after)) (alone w before e);
    }

-- by what it found and what it left
pub event_told : (w : Watched) (p : List ℕ) (before : ℕ) (last : Option Moment) (s now t r : Space) (u : Top) (ds : Children) (f : Found) → is_enabled p 8 s ≡ true → now ≡ try_step p 8 s → at p s ≡ Some t → at p now ≡ Some r → space u ds ≡ r
    → f ≡ found_by (notice.Change w) (top_of t) → last ≡ (if watched_in w u == f.value then None else Some (moment_of w (before + 1) f u)) → TurnsAt 8 w p before 1 last s now
event_told w p before last s now t r u ds f may stepped first second there found is =
    event_turn w p before last s now t r may stepped first second
    (is ∙ ap (λ (g : Found). if watched_in w u == g.value then None else Some (moment_of w (before + 1) g u)) found ∙ ap (λ (y : Space). changed_in w (before + 1) (top_of t) (top_of y)) there)

-- the space is there still
pub event_stays : (p : List ℕ) (s now : Space) → is_enabled p 8 s ≡ true → now ≡ try_step p 8 s → at p now ≡ None → ⊥
event_stays p s now may stepped gone =
    let here = own_here p s may in
    let h = event_there p 8 s here.0 here.1 in
    let left = ap (top_at p) (sym (stepped_to p s now may stepped)) ∙ h.2 in
    let none : top_at p now ≡ None = ap (option_map top_of) gone in cc

-- two paths are one or differ
pub cases_path : (p q : List ℕ) → (p ≡ q) ⊎ (p ≡ q → ⊥)
cases_path p q = go (is_same_path p q) refl
  where
    go : (b : Bool) → is_same_path p q ≡ b → (p ≡ q) ⊎ (p ≡ q → ⊥)
    go true is = inl (same_path p q is)
    go false is = inr (λ e. true≢false (sym (same_itself p) ∙ ap (is_same_path p) e ∙ is))
