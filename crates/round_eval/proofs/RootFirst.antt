-- Rounds in which the root goes on by itself, and what they write to its console.
use Rattle.std.proofs.Common.{◌≡◌, ℕ, zero, suc, ◌+◌, ◌*◌, ◌-◌, ◌≤◌, ◌<◌, Bool, true, false, ◌||◌, List, [], ◌∷◌, ◌++◌, length, append_assoc, length-append, Option, Some, None, Result, Ok, Err, IfOk, OnErr, inl, inr, refl, sym, ◌∙◌, ap, subst, arith}
use Rattle.std.specs.Prelude.{◌⊎◌, nat_lt}
use Rattle.std.proofs.lemmas.Bool.Decides.{nat_tests}
use Rattle.std.proofs.lemmas.List.{append-nil}
use Rattle.call_model.specs.declared.Call.{Call}
use Rattle.det_host.specs.Writing.{Output, StopsWithin, TakesPrefix}
use Rattle.space_model.specs.Stop.{is_stopped}
use Rattle.space_model.specs.Space.{Space, space, Top, Children, top_of, over, console_bytes}
use Rattle.space_model.specs.Beginning.{fresh_top}
use Rattle.space_model.specs.Path.{replace_top}
use Rattle.space_model.specs.Sound.{IsSound}
use Rattle.space_model.specs.Event.{NextEvent, rests, moves, meets, next, Follows}
use Rattle.run_model.specs.Console.{console_in, most_output}
use Rattle.run_model.specs.Demand.{settle_tree}
use Rattle.run_model.specs.Schedule.{may_happen, ready_call, step, where_some, event, try_meet}
use Rattle.run_model.proofs.Console.{call_devices}
use Rattle.run_model.proofs.Fuel.{stopped_rests}
use Rattle.report_model.specs.Report.{console_of}
use Rattle.det_laws.specs.Leads.{Leads}
use Rattle.demand_eval.specs.Streams.{Begins, ByOneEvent, Lags, Writes}
use Rattle.demand_eval.proofs.Streams.{begins_then, writes_then}
use Rattle.space_step.specs.declared.event.Advance.{Advance}
use Rattle.space_step.specs.declared.event.Next.{Next}
use Rattle.space_step.specs.declared.event.Next.TheVariants as answers
use Rattle.space_step.specs.Output.{AdvancesWithOutput, EndedWithOutput}
use Rattle.space_step.proofs.Following.{follows_append}
use Rattle.round_eval.specs.Apart.{ByOneQuantum, InOneQuantum, RootWithin, Shows, ShowsThen, WentWriting}
use Rattle.round_eval.specs.Later.{IsLater}
use Rattle.round_eval.proofs.Later.{later_settles, later_sound, later_then, nothing, then_more, went}
use Rattle.round_eval.proofs.Onward.{here_reaches}

-- the root goes on
pub root_went : (n : ℕ) (t u : Top) (s : Space) (cs : Children) → space t cs ≡ s → Follows 8 n t u → IsLater (nat_lt 0 n) s (space u cs)
root_went n t u s cs is f = went s (space u cs) n (nat_lt 0 n) (here_reaches 8 n t u s cs is f) (λ some. grind (arith, nat_tests))

-- and what it writes
-- as the answers of an advance have it
brief_so : (quantum enough ran : ℕ) (o : Option Next) (output : List ℕ) (t : Top) → EndedWithOutput 8 quantum enough ran o output t → ran ≤ quantum
brief_so quantum enough ran None output t h = omega (arith, h.0)
brief_so quantum enough ran (Some answers.Local) output t h = h.1
brief_so quantum enough ran (Some (answers.Meet k)) output t h = omega (arith, h.0)
brief_so quantum enough ran (Some answers.Stopped) output t h = omega (arith, h.0)

pub wrote_within : (quantum enough : ℕ) (a : Advance) (ready output : List ℕ) (t u : Top) → AdvancesWithOutput 8 quantum enough a ready output t u → ready ≡ [] → length output < enough + most_output
    → enough + most_output ≡ quantum * most_output + 1 → WentWriting quantum a.ran output t u
wrote_within quantum enough a ready output t u advances none bound within =
    let goes = advances.goes in
    let all : output ≡ goes.written = goes.appended ∙ ap (λ l. l ++ goes.written) none in
    record {
      follows = goes.follows;
      brief = brief_so quantum enough a.ran a.next output u advances.ended;
      console = goes.console ∙ ap (λ l. console_in t ++ l) (sym all);
      few = omega (arith, bound, within);
    }

pub root_shows : (events n : ℕ) (t u : Top) (s : Space) (cs : Children) (written ready output : List ℕ) → space t cs ≡ s → WentWriting events n written t u → output ≡ ready ++ written → Shows events ready output s (space u cs)
root_shows events n t u s cs written ready output is w appended = record {
  ran = n;
  brief = w.brief;
  follows = subst (λ (r : Space). Follows 8 n (top_of r) u) is w.follows;
  more = written;
  console = w.console ∙ ap (λ (r : Space). console_of r ++ written) is;
  appended = appended;
  few = w.few;
}

-- nothing is written
pub shows_quiet : (events : ℕ) (ready : List ℕ) (s t : Space) → top_of t ≡ top_of s → Shows events ready ready s t
shows_quiet events ready s t same = record {
  ran = 0;
  brief = omega arith;
  follows = same;
  more = [];
  console = ap console_in same ∙ sym (append-nil (console_of s));
  appended = sym (append-nil ready);
  few = omega arith;
}

-- some events, and some more
pub shows_then : (a b events : ℕ) (ready now output : List ℕ) (s t u : Space) → a + b ≤ events → Shows a ready now s t → Shows b now output t u → Shows events ready output s u
shows_then a b events ready now output s t u within first then = record {
  ran = first.ran + then.ran;
  brief = omega (arith, within, first.brief, then.brief);
  follows = follows_append 8 first.ran then.ran (top_of s) (top_of t) (top_of u) first.follows then.follows;
  more = first.more ++ then.more;
  console = then.console ∙ ap (λ l. l ++ then.more) first.console ∙ append_assoc (console_of s) first.more then.more;
  appended = then.appended ∙ ap (λ l. l ++ then.more) first.appended ∙ append_assoc ready first.more then.more;
  few = omega (arith, within, first.few, then.few, length-append first.more then.more);
}

-- some events, and then others that write nothing
pub shows_before : (events : ℕ) (ready output : List ℕ) (s t u : Space) → Shows events ready output s t → console_of u ≡ console_of t → ShowsThen events ready output s u
shows_before events ready output s t u shows same = (t, (shows, same))

pub shows_still : (events : ℕ) (ready output : List ℕ) (s t u : Space) → ShowsThen events ready output s t → console_of u ≡ console_of t → ShowsThen events ready output s u
shows_still events ready output s t u shows same = (shows.0, (shows.1.0, same ∙ shows.1.1))

-- all of it, where nothing was ready
pub shows_all : (events : ℕ) (ready output : List ℕ) (s t : Space) → ready ≡ [] → ShowsThen events ready output s t
    → (console_of t ≡ console_of s ++ output) × ((length output ≤ events * most_output) × RootWithin events s t)
shows_all events ready output s t none then =
    let shows = then.1.0 in
    let all : output ≡ shows.more = shows.appended ∙ ap (λ l. l ++ shows.more) none in (
      then.1.1 ∙ shows.console ∙ ap (λ l. console_of s ++ l) (sym all),
      (
        subst (λ l. length l ≤ events * most_output) (sym all) shows.few,
        record { ran = shows.ran; brief = shows.brief; top = top_of then.0; follows = shows.follows; wrote = then.1.1 },
      ),
    )

-- a call of the root leaves its console
after_call : (t : Top) (cs : Children) (x : NextEvent) (done : Bool) → next 8 t ≡ x → console_of (event 8 x (space t cs)) ≡ console_of (space t cs) → console_of (where_some (ready_call x cs) (event 8 x (space t cs)) (space t cs)) ≡ console_of (space t cs)
after_call t cs rests done e kept = refl
after_call t cs (moves u) done e kept = refl
after_call t cs (meets k u) done e kept = go (ready_call (meets k u) cs)
  where
    go : (o : Option Call) → console_of (where_some o (event 8 (meets k u) (space t cs)) (space t cs)) ≡ console_of (space t cs)
    go None = refl
    go (Some c) = kept

meets_quietly : (t : Top) (cs : Children) (x : NextEvent) → next 8 t ≡ x → console_of (where_some (ready_call x cs) (event 8 x (space t cs)) (space t cs)) ≡ console_of (space t cs)
meets_quietly t cs rests e = refl
meets_quietly t cs (moves u) e = refl
meets_quietly t cs (meets k u) e = after_call t cs (meets k u) true e (ap console_bytes (call_devices 8 t u k cs e))

pub root_met : (p : List ℕ) (s r : Space) → p ≡ [] → r ≡ try_meet p 8 s → console_of r ≡ console_of s
root_met p (space t cs) r none met = ap console_of (met ∙ ap (λ q. try_meet q 8 (space t cs)) none) ∙ meets_quietly t cs (next 8 t) refl

-- what happens below a root that has stopped happens below any
leads_below : (ps : List (List ℕ)) (t u : Top) (cs : Children) (r : Space) → is_stopped u.status ≡ true → Leads 8 ps (space u cs) r → Leads 8 ps (space t cs) (replace_top t r)
leads_below [] t u cs r stopped is = ap (replace_top t) is
leads_below ([] ∷ ps) t u cs r stopped h = let none : may_happen (next 8 u) cs ≡ false = ap (λ x. may_happen x cs) (stopped_rests 8 u stopped) in absurd (cc)
leads_below ((n ∷ p) ∷ ps) t u cs r stopped h = (h.0, leads_below ps t u (over n (step p 7) cs) r stopped h.1)

below_later : (some : Bool) (t u : Top) (cs : Children) (r : Space) → is_stopped u.status ≡ true → IsLater some (space u cs) r → IsLater some (space t cs) (replace_top t r)
below_later some t u cs r stopped later =
    record { events = later.events; reached = (later.reached.0, later.reached.1, leads_below later.reached.0 t u cs r stopped later.reached.2); some = later.some }

replaced : (t : Top) (w v : Top) (ds : Children) (r : Space) → space w ds ≡ r → space t ds ≡ replace_top t r
replaced t w v ds r is = ap (replace_top t) is

-- a round below the root: its top comes back to where it was
pub went_below : (some : Bool) (fuel : ℕ) (t u w : Top) (cs ds : Children) (s r : Space) → space t cs ≡ s → u ≡ fresh_top fuel → IsLater some (space u cs) r → space w ds ≡ r → IsLater some s (space t ds)
went_below some fuel t u w cs ds s r is fresh later end =
    let stopped : is_stopped u.status ≡ true = ap (λ (v : Top). is_stopped v.status) fresh in
    subst (λ q. IsLater some q (space t ds)) is (subst (IsLater some (space t cs)) (sym (ap (replace_top t) end)) (below_later some t u cs r stopped later))

pub round_back : (some : Bool) (fuel : ℕ) (t t' u u' w : Top) (cs ds : Children) (s r : Space) → space t cs ≡ s → t' ≡ t → u' ≡ u → u ≡ fresh_top fuel → IsLater some (space u' cs) r → space w ds ≡ r
    → IsLater some s (space t' ds)
round_back some fuel t t' u u' w cs ds s r is same put fresh later end = went_below some fuel t' u' w cs ds s r (ap (λ v. space v cs) same ∙ is) (put ∙ fresh) later end

-- and a round below it while it goes on in a thread of its own
pub went_beside : (below : Bool) (n fuel : ℕ) (t t' u u' v w : Top) (cs ds : Children) (s r : Space) → space t cs ≡ s → t' ≡ t → u' ≡ u → u ≡ fresh_top fuel → Follows 8 n t' v → IsLater below (space u' cs) r → space w ds ≡ r
    → IsLater (nat_lt 0 n || below) s (space v ds)
went_beside below n fuel t t' u u' v w cs ds s r is same put fresh follows later end =
    let first = root_went n t' v s cs (ap (λ x. space x cs) same ∙ is) follows in
    then_more (nat_lt 0 n) below s (space v cs) (space v ds) first (went_below below fuel v u' w cs ds (space v cs) r refl (put ∙ fresh) later end)

pub either_later : (a b r : Bool) (s t : Space) → r ≡ (a || b) → IsLater (a || b) s t → IsLater r s t
either_later a b r s t is later = subst (λ x. IsLater x s t) (sym is) later

pub beside_shows : (events n : ℕ) (t t' v : Top) (cs ds : Children) (s : Space) (written ready output : List ℕ) → space t cs ≡ s → t' ≡ t → WentWriting events n written t' v → output ≡ ready ++ written
    → Shows events ready output s (space v ds)
beside_shows events n t t' v cs ds s written ready output is same w appended =
    record {
      ran = n;
      brief = w.brief;
      follows = subst (λ x. Follows 8 n x v) (same ∙ ap top_of is) w.follows;
      more = written;
      console = w.console ∙ ap (λ x. console_in x ++ written) same ∙ ap (λ (r : Space). console_of r ++ written) is;
      appended = appended;
      few = w.few;
    }

-- a sink that fails behind a round
pub fails_behind : (most quantum : ℕ) (some : Bool) (s r : Space) (more : List ℕ) (o : Output) → IsSound s → IsLater some s r → console_of r ≡ console_of s ++ more → length more ≤ most → RootWithin quantum s r → StopsWithin o more
    → Lags most (ByOneQuantum quantum) o s r
fails_behind most quantum some s r more o ok later wrote few root stops = record {
  sound = later_sound some s r later ok;
  same = later_settles some s r later ok;
  more = more;
  begins = wrote;
  count = stops.0.0;
  taken = stops.0.1.1;
  not_all = stops.0.1.0;
  near = omega (arith, few);
  went = (s, (nothing s, inl (record { covered = omega arith; root = root })));
  fault = stops.1;
}

pub begins_behind : (some : Bool) (s r : Space) (more : List ℕ) (o : Output) → IsSound s → IsLater some s r → console_of r ≡ console_of s ++ more → TakesPrefix o.taken_before o.taken_after more → Begins o s
begins_behind some s r more o ok later wrote prefix = record { at = r; same = later_settles some s r later ok; more = more; begins = wrote; prefix = prefix }

-- from a tree that a schedule led to
pub one_quantum_from : (some : Bool) (quantum count : ℕ) (s m at : Space) → IsLater some s m → ByOneQuantum quantum count m at → ByOneQuantum quantum count s at
one_quantum_from some quantum count s m at later h = (h.0, (later_then some false s m h.0 later h.1.0, h.1.1))

-- what holds on demand holds in rounds
pub lags_more : (most quantum : ℕ) (o : Output) (s at : Space) → 1 ≤ quantum → Lags most ByOneEvent o s at → Lags (quantum * most) (ByOneQuantum quantum) o s at
lags_more most quantum o s at some lags = record {
  sound = lags.sound;
  same = lags.same;
  more = lags.more;
  begins = lags.begins;
  count = lags.count;
  taken = lags.taken;
  not_all = lags.not_all;
  near = omega (arith, lags.near, at_least most quantum some);
  went = (s, (nothing s, inr lags.went));
  fault = lags.fault;
}
  where
    at_least : (m q : ℕ) → 1 ≤ q → m ≤ q * m
    at_least m zero h = absurd (omega arith)
    at_least m (suc k) h = omega arith

-- what comes of rounds, and of the settling behind them
pub meaning_on : {E : Type 0} (r : Result Space E) (s m : Space) → settle_tree m ≡ settle_tree s → IfOk r (λ t. t ≡ settle_tree m) → IfOk r (λ t. t ≡ settle_tree s)
meaning_on (Ok t) s m same h = h ∙ same
meaning_on (Err e) s m same h = tt

pub writes_on : {E : Type 0} (r : Result Space E) (a b c : Option (List ℕ)) (f g h : ℕ) (s m : Space) → Writes (record { taken_before = a; taken_after = b; faults_before = f; faults_after = g }) s m
    → IfOk r (λ t. Writes (record { taken_before = b; taken_after = c; faults_before = g; faults_after = h }) m t)
    → IfOk r (λ t. Writes (record { taken_before = a; taken_after = c; faults_before = f; faults_after = h }) s t)
writes_on (Ok t) a b c f g h s m first then = writes_then a b c f g h s m t first then
writes_on (Err e) a b c f g h s m first then = tt

pub begins_on : {E : Type 0} (r : Result Space E) (a b c : Option (List ℕ)) (f g h : ℕ) (s m : Space) → settle_tree m ≡ settle_tree s → Writes (record { taken_before = a; taken_after = b; faults_before = f; faults_after = g }) s m
    → OnErr r (Begins (record { taken_before = b; taken_after = c; faults_before = g; faults_after = h }) m)
    → OnErr r (Begins (record { taken_before = a; taken_after = c; faults_before = f; faults_after = h }) s)
begins_on (Ok t) a b c f g h s m same first then = tt
begins_on (Err e) a b c f g h s m same first then = begins_then a b c f g h s m same first then
