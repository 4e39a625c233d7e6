-- What a sink takes of a console piece by piece is what it takes of it in all.
use Rattle.std.proofs.Common.{◌≡◌, ℕ, zero, suc, ◌+◌, ◌≤◌, Bool, true, List, [], ◌∷◌, ◌++◌, length, take, append_assoc, length-append, Option, Some, None, Result, Ok, Err, IfOk, OnErr, inl, inr, refl, sym, ap, ◌∙◌, subst, arith}
use Rattle.std.proofs.lemmas.List.{append-nil, take_all}
use Rattle.det_host.specs.Outside.{Rose, Takes}
use Rattle.det_host.specs.Writing.{Output, TakesPrefix, StopsWithin}
use Rattle.space_model.specs.Space.{Space, space, Top, Children, top_of}
use Rattle.space_model.specs.Sound.{IsSound, IsSoundAt}
use Rattle.space_model.specs.Event.{Follows}
use Rattle.report_model.specs.Report.{console_of}
use Rattle.run_model.specs.Demand.{of_children, run, settle_tree}
use Rattle.run_model.specs.Console.{console_in, most_output}
use Rattle.run_model.proofs.Console.{event_grows, settled_begins}
use Rattle.run_model.proofs.Sound.{run_sound}
use Rattle.run_model.proofs.Fuel.{stopped_rests}
use Rattle.run_model.proofs.Run.{run-run_on, run_on-rests, run-stops}
use Rattle.space_step.specs.ToSink.{GoesPartlyTo, GoesTo, StopsAtLast}
use Rattle.space_step.proofs.Following.{follows_more}
use Rattle.space_step.proofs.ToSink.{prefix_then, take_past, takes_then}
use Rattle.demand_eval.specs.Turns.{IsSoundBelow, by_demand, with_everyone}
use Rattle.demand_eval.specs.Streams.{Far, ByOneEvent, StandsStill, Writes, Lags, Begins}
use Rattle.demand_eval.proofs.ByDemand.{demand-follows}
use Rattle.demand_eval.proofs.Everyone.{run_then}
use Rattle.demand_eval.proofs.Turns.{advanced_sound, run-follows}

taken_same : (a b : Option (List ℕ)) (xs ys : List ℕ) → xs ≡ ys → Takes a b xs → Takes a b ys
taken_same a b xs ys e h = subst (Takes a b) e h

prefix_same : (a b : Option (List ℕ)) (xs ys : List ℕ) → xs ≡ ys → TakesPrefix a b xs → TakesPrefix a b ys
prefix_same a b xs ys e h = subst (TakesPrefix a b) e h

-- first bytes of a beginning
fewer : (n : ℕ) (xs ys : List ℕ) → (k : ℕ) × (take n xs ≡ take k (xs ++ ys))
fewer zero xs ys = (0, refl)
fewer (suc n) [] ys = (0, refl)
fewer (suc n) (x ∷ xs) ys = let rest = fewer n xs ys in (suc rest.0, ap (λ l. x ∷ l) rest.1)

pub prefix_more : (a b : Option (List ℕ)) (xs ys : List ℕ) → TakesPrefix a b xs → TakesPrefix a b (xs ++ ys)
prefix_more None b xs ys h = tt
prefix_more (Some before) b xs ys h = let k = fewer h.0 xs ys in (k.0, h.1 ∙ ap (λ l. Some (before ++ l)) k.1)

pub all_prefix : (a b : Option (List ℕ)) (xs : List ℕ) → Takes a b xs → TakesPrefix a b xs
all_prefix None b xs h = tt
all_prefix (Some before) b xs h = (length xs, h ∙ ap (λ l. Some (before ++ l)) (sym (take_all (length xs) xs (omega arith))))

some_prefix : (a b : Option (List ℕ)) (xs : List ℕ) (n : ℕ) → Takes a b (take n xs) → TakesPrefix a b xs
some_prefix None b xs n h = tt
some_prefix (Some before) b xs n h = (n, h)

-- first bytes of what a tree's console is are first bytes of what it will be
pub prefix_settled : (a b : Option (List ℕ)) (s at : Space) → settle_tree at ≡ settle_tree s → TakesPrefix a b (console_of at) → TakesPrefix a b (console_of (settle_tree s))
prefix_settled a b s at same h =
    let rest = settled_begins at in
    subst (λ r. TakesPrefix a b (console_of r)) same (prefix_same a b (console_of at ++ rest.0) (console_of (settle_tree at)) (sym rest.1) (prefix_more a b (console_of at) rest.0 h))

-- counts of faults that never fall
rose_later : (f g h : ℕ) → f ≤ g → Rose g h → Rose f h
rose_later f g h le rose = omega (arith, rose)

-- the same run comes to the same end, and is as sound
pub same_end : (s r : Space) → run 8 r ≡ run 8 s → settle_tree r ≡ settle_tree s
same_end s r same =
    sym (run_then 8 r (run 8 r) (with_everyone 8 (run 8 r)) refl refl) ∙ ap (with_everyone 8) same ∙ run_then 8 s (run 8 s) (with_everyone 8 (run 8 s)) refl refl

one_fuel : (levels f g : ℕ) (b : Bool) (q : Space) → IsSoundAt levels true f q → IsSoundAt levels b g q → (b ≡ true) × (g ≡ f)
one_fuel levels f g b (space t cs) ok also = (sym also.0.devices ∙ ok.0.devices, sym also.0.sum ∙ ok.0.sum)

pub still_sound : (s r : Space) → IsSound s → run 8 r ≡ run 8 s → IsSoundBelow 8 r → IsSound r
still_sound s r ok same below =
    let first = run_sound 8 true ok.0 s ok.1.2 in
    let second = subst (IsSoundAt 8 below.root below.fuel) same (run_sound 8 below.root below.fuel r below.sound) in
    let e = one_fuel 8 ok.0 below.fuel below.root (run 8 s) first second in
    (ok.0, (ok.1.0, ok.1.1, subst (λ f. IsSoundAt 8 true f r) e.1 (subst (λ b. IsSoundAt 8 b below.fuel r) e.0 below.sound)))

pub sound_below : (s : Space) → IsSound s → IsSoundBelow 8 s
sound_below s ok = record { root = true; fuel = ok.0; sound = ok.1.2 }

-- the tree behind some local events of its root
pub went_sound : (n : ℕ) (t u : Top) (cs : Children) (s : Space) → IsSound s → space t cs ≡ s → Follows 8 n t u → IsSound (space u cs)
went_sound n t u cs s ok is f =
    still_sound s (space u cs) ok (run-follows 8 n t u cs f ∙ ap (run 8) is) (advanced_sound 8 n t u cs s (sound_below s ok) is f)

pub went_same : (n : ℕ) (t u : Top) (cs : Children) (s : Space) → space t cs ≡ s → Follows 8 n t u → settle_tree (space u cs) ≡ settle_tree s
went_same n t u cs s is f = same_end s (space u cs) (run-follows 8 n t u cs f ∙ ap (run 8) is)

pub went_writing : (t u : Top) (cs : Children) (s : Space) (more : List ℕ) → space t cs ≡ s → console_in u ≡ console_in t ++ more → console_of (space u cs) ≡ console_of s ++ more
went_writing t u cs s more is wrote = wrote ∙ ap (λ (r : Space). console_of r ++ more) is

-- the root came there by demand, and what it had written before its last event was taken
stops_by_one : (t u : Top) (cs : Children) (s : Space) (o : Output) → space t cs ≡ s → (stops : StopsAtLast 8 o t u) → ByOneEvent (length (console_of s) + (length stops.early + stops.count)) s (space u cs)
stops_by_one t u cs s o is stops =
    let f = follows_more 8 stops.before t stops.top u stops.follows stops.last in
    let first : by_demand 8 stops.before s ≡ space stops.top cs = ap (by_demand 8 stops.before) (sym is) ∙ demand-follows 8 stops.before t stops.top cs stops.follows in
    let held : console_of (by_demand 8 stops.before s) ≡ console_of s ++ stops.early = ap console_of first ∙ went_writing t stops.top cs s stops.early is stops.console in
    record {
      before = stops.before;
      last = sym (demand-follows 8 (stops.before + 1) t u cs f) ∙ ap (by_demand 8 (stops.before + 1)) is;
      covered = omega (arith, ap length held, length-append (console_of s) stops.early);
    }

-- a sink that failed within what the last event wrote
pub stops_behind : (t u : Top) (cs : Children) (s : Space) (o : Output) → IsSound s → space t cs ≡ s → StopsAtLast 8 o t u → Lags most_output ByOneEvent o s (space u cs)
stops_behind t u cs s o ok is stops =
    let f = follows_more 8 stops.before t stops.top u stops.follows stops.last in
    let grows = event_grows 8 stops.top u stops.last in
    let long = ap length (sym stops.wrote ∙ grows.1.1) in
    let few : length stops.piece ≤ most_output = omega (arith, long, grows.1.0, length-append (console_in stops.top) stops.piece, length-append (console_in stops.top) grows.0) in
    let wrote : console_in u ≡ console_in t ++ (stops.early ++ stops.piece) = stops.wrote ∙ ap (λ l. l ++ stops.piece) stops.console ∙ append_assoc (console_in t) stops.early stops.piece in
    record {
      sound = went_sound (stops.before + 1) t u cs s ok is f;
      same = went_same (stops.before + 1) t u cs s is f;
      more = stops.early ++ stops.piece;
      begins = went_writing t u cs s (stops.early ++ stops.piece) is wrote;
      count = length stops.early + stops.count;
      taken = subst (Takes o.taken_before o.taken_after) (sym (take_past stops.early stops.piece stops.count)) stops.taken;
      not_all = omega (arith, stops.not_all, length-append stops.early stops.piece);
      near = omega (arith, few, length-append stops.early stops.piece);
      went = stops_by_one t u cs s o is stops;
      fault = stops.fault;
    }

pub begins_behind : (t u : Top) (cs : Children) (s : Space) (o : Output) → space t cs ≡ s → GoesPartlyTo 8 o t u → Begins o s
begins_behind t u cs s o is part =
    record { at = space u cs; same = went_same part.ran t u cs s is part.follows; more = part.written; begins = went_writing t u cs s part.written is part.console; prefix = part.prefix }

pub writes_behind : (n : ℕ) (t u : Top) (cs : Children) (s : Space) (o : Output) → space t cs ≡ s → GoesTo 8 n o t u → Writes o s (space u cs)
writes_behind n t u cs s o is goes = (goes.written, (went_writing t u cs s goes.written is goes.console, goes.taken))

nothing_taken : (a : Option (List ℕ)) → TakesPrefix a a []
nothing_taken None = tt
nothing_taken (Some before) = (0, ap Some (sym (append-nil before)))

-- a sink that was not called
pub begins_same : (a : Option (List ℕ)) (f g : ℕ) (s : Space) → Begins (record { taken_before = a; taken_after = a; faults_before = f; faults_after = g }) s
begins_same a f g s = record { at = s; same = refl; more = []; begins = sym (append-nil (console_of s)); prefix = nothing_taken a }

-- nothing is written
pub writes_none : (a : Option (List ℕ)) (f : ℕ) (s : Space) → Writes (record { taken_before = a; taken_after = a; faults_before = f; faults_after = f }) s s
writes_none None f s = ([], (sym (append-nil (console_of s)), tt))
writes_none (Some before) f s = ([], (sym (append-nil (console_of s)), ap Some (sym (append-nil before))))

-- one after the other
pub writes_then : (a b c : Option (List ℕ)) (f g h : ℕ) (s m t : Space) → Writes (record { taken_before = a; taken_after = b; faults_before = f; faults_after = g }) s m
    → Writes (record { taken_before = b; taken_after = c; faults_before = g; faults_after = h }) m t → Writes (record { taken_before = a; taken_after = c; faults_before = f; faults_after = h }) s t
writes_then a b c f g h s m t one two =
    (one.0 ++ two.0, (two.1.0 ∙ ap (λ l. l ++ two.0) one.1.0 ∙ append_assoc (console_of s) one.0 two.0, takes_then a b c one.0 two.0 one.1.1 two.1.1))

pub lags_then : (most : ℕ) (far : Far) (a b c : Option (List ℕ)) (f g h : ℕ) (s m t : Space) → f ≤ g → settle_tree m ≡ settle_tree s → ((count : ℕ) → far count m t → far count s t)
    → Writes (record { taken_before = a; taken_after = b; faults_before = f; faults_after = g }) s m
    → Lags most far (record { taken_before = b; taken_after = c; faults_before = g; faults_after = h }) m t → Lags most far (record { taken_before = a; taken_after = c; faults_before = f; faults_after = h }) s t
lags_then most far a b c f g h s m t le same carry one two =
    let counted : length (console_of m) + two.count ≡ length (console_of s) + (length one.0 + two.count) = omega (arith, ap length one.1.0, length-append (console_of s) one.0) in
    record {
      sound = two.sound;
      same = two.same ∙ same;
      more = one.0 ++ two.more;
      begins = two.begins ∙ ap (λ l. l ++ two.more) one.1.0 ∙ append_assoc (console_of s) one.0 two.more;
      count = length one.0 + two.count;
      taken = subst (Takes a c) (sym (take_past one.0 two.more two.count)) (takes_then a b c one.0 (take two.count two.more) one.1.1 two.taken);
      not_all = omega (arith, two.not_all, length-append one.0 two.more);
      near = omega (arith, two.near, length-append one.0 two.more);
      went = subst (λ k. far k s t) counted (carry (length (console_of m) + two.count) two.went);
      fault = rose_later f g h le two.fault;
    }

pub begins_then : (a b c : Option (List ℕ)) (f g h : ℕ) (s m : Space) → settle_tree m ≡ settle_tree s → Writes (record { taken_before = a; taken_after = b; faults_before = f; faults_after = g }) s m
    → Begins (record { taken_before = b; taken_after = c; faults_before = g; faults_after = h }) m → Begins (record { taken_before = a; taken_after = c; faults_before = f; faults_after = h }) s
begins_then a b c f g h s m same one two = record {
  at = two.at;
  same = two.same ∙ same;
  more = one.0 ++ two.more;
  begins = two.begins ∙ ap (λ l. l ++ two.more) one.1.0 ∙ append_assoc (console_of s) one.0 two.more;
  prefix = prefix_then a b c one.0 two.more one.1.1 two.prefix;
}

-- behind the console as it was at first
pub stands_behind : (most : ℕ) (far : Far) (a b c : Option (List ℕ)) (f g h : ℕ) (s at : Space) → f ≤ g → Takes a b (console_of s) → Lags most far (record { taken_before = b; taken_after = c; faults_before = g; faults_after = h }) s at
    → StandsStill most far (record { taken_before = a; taken_after = c; faults_before = f; faults_after = h }) s at
stands_behind most far a b c f g h s at le first lags =
    let all : take (length (console_of s) + lags.count) (console_of at) ≡ console_of s ++ take lags.count lags.more = ap (take (length (console_of s) + lags.count)) lags.begins ∙ take_past (console_of s) lags.more lags.count in
    let long = ap length lags.begins ∙ length-append (console_of s) lags.more in
    record {
      sound = lags.sound;
      same = lags.same;
      more = lags.more;
      begins = lags.begins;
      count = length (console_of s) + lags.count;
      taken = subst (Takes a c) (sym all) (takes_then a b c (console_of s) (take lags.count lags.more) first lags.taken);
      not_all = omega (arith, long, lags.not_all);
      near = omega (arith, long, lags.near);
      went = inr lags.went;
      fault = rose_later f g h le lags.fault;
    }

-- within the console as it was at first
pub stands_at_first : (most : ℕ) (far : Far) (o : Output) (s : Space) → IsSound s → StopsWithin o (console_of s) → StandsStill most far o s s
stands_at_first most far o s ok stops = record {
  sound = ok;
  same = refl;
  more = [];
  begins = sym (append-nil (console_of s));
  count = stops.0.0;
  taken = stops.0.1.1;
  not_all = stops.0.1.0;
  near = omega arith;
  went = inl refl;
  fault = stops.1;
}

-- what the sink has taken in all is a beginning of the settled console
pub begun_behind : (a b c : Option (List ℕ)) (g h : ℕ) (s : Space) → Takes a b (console_of s) → Begins (record { taken_before = b; taken_after = c; faults_before = g; faults_after = h }) s → TakesPrefix a c (console_of (settle_tree s))
begun_behind a b c g h s first rest =
    prefix_settled a c s rest.at rest.same (prefix_same a c (console_of s ++ rest.more) (console_of rest.at) (sym rest.begins) (prefix_then a b c (console_of s) rest.more first rest.prefix))

pub written_behind : (a b c : Option (List ℕ)) (f g : ℕ) (s t : Space) → Takes a b (console_of s) → Writes (record { taken_before = b; taken_after = c; faults_before = f; faults_after = g }) s t → Takes a c (console_of t)
written_behind a b c f g s t first rest = subst (Takes a c) (sym rest.1.0) (takes_then a b c (console_of s) rest.0 first rest.1.1)

-- a run that stopped, and what its children do then
everyone_console : (r : Space) → console_of (with_everyone 8 r) ≡ console_of r
everyone_console (space t cs) = refl

pub writes_settled : (o : Output) (s r q : Space) → q ≡ with_everyone 8 r → Writes o s r → Writes o s q
writes_settled o s r q is w = (w.0, (ap console_of is ∙ everyone_console r ∙ w.1.0, w.1.1))

pub begins_written : (a b : Option (List ℕ)) (f g : ℕ) (s r : Space) → settle_tree r ≡ settle_tree s → Writes (record { taken_before = a; taken_after = b; faults_before = f; faults_after = g }) s r
    → Begins (record { taken_before = a; taken_after = b; faults_before = f; faults_after = g }) s
begins_written a b f g s r same w = record { at = r; same = same; more = w.0; begins = w.1.0; prefix = all_prefix a b w.0 w.1.1 }

-- what a space has run to settles to the same
run_twice : (s : Space) → run 8 (run 8 s) ≡ run 8 s
run_twice s = run-run_on 8 (run 8 s) ∙ run_on-rests (of_children 8) 8 (run 8 s) (stopped_rests 8 (top_of (run 8 s)) (run-stops 8 s))

pub ran_same : (s r : Space) → r ≡ run 8 s → settle_tree r ≡ settle_tree s
ran_same s r ran = same_end s r (ap (run 8) ran ∙ run_twice s)

pub nothing_prefix : (a : Option (List ℕ)) (xs : List ℕ) → TakesPrefix a a xs
nothing_prefix None xs = tt
nothing_prefix (Some before) xs = (0, ap Some (sym (append-nil before)))

-- what the sink has taken in all, whatever the answer
pub prefix_in_all : {E : Type 0} (r : Result Space E) (a b c : Option (List ℕ)) (g h : ℕ) (s : Space) → Takes a b (console_of s) → IfOk r (λ t. t ≡ settle_tree s)
    → IfOk r (λ t. Writes (record { taken_before = b; taken_after = c; faults_before = g; faults_after = h }) s t)
    → OnErr r (Begins (record { taken_before = b; taken_after = c; faults_before = g; faults_after = h }) s) → TakesPrefix a c (console_of (settle_tree s))
prefix_in_all (Ok t) a b c g h s first meaning writes begins = subst (λ q. TakesPrefix a c (console_of q)) meaning (all_prefix a c (console_of t) (written_behind a b c g h s t first writes))
prefix_in_all (Err e) a b c g h s first meaning writes begins = begun_behind a b c g h s first begins
