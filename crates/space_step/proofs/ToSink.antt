-- Local events one after the other, and what a sink takes of what they write.
use Rattle.std.proofs.Common.{◌≡◌, ℕ, suc, ◌+◌, ◌≤◌, ◌<◌, Bool, List, [], ◌∷◌, ◌++◌, length, take, append_assoc, Option, Some, None, Result, Ok, Err, IfOk, OnErr, IfSome, refl, sym, ap, ◌∙◌, subst, arith}
use Rattle.std.proofs.lemmas.List.{append-nil}
use Rattle.det_host.specs.Outside.{Takes}
use Rattle.det_host.specs.Writing.{Output, StopsWithin, TakesPrefix}
use Rattle.space_model.specs.Space.{Top}
use Rattle.space_model.specs.Event.{Follows}
use Rattle.space_model.specs.Sound.{IsSoundTop}
use Rattle.space_model.proofs.Next.{follows_sound}
use Rattle.run_model.specs.Console.{console_in}
use Rattle.space_step.specs.declared.event.Advance.{Advance}
use Rattle.space_step.specs.Running.{WritesAtLast}
use Rattle.space_step.specs.Output.{named_bytes}
use Rattle.space_step.specs.ToSink.{AdvancesTo, GoesPartlyTo, GoesTo, StopsAtLast}
use Rattle.space_step.proofs.Following.{follows_append}
use Rattle.space_step.proofs.WithOutput.{not_grown, written_last}

-- bytes that are taken one after the other
pub takes_then : (a b c : Option (List ℕ)) (xs ys : List ℕ) → Takes a b xs → Takes b c ys → Takes a c (xs ++ ys)
takes_then None b c xs ys h g = tt
takes_then (Some before) b c xs ys h g = subst (λ o. IfSome o (λ l. c ≡ Some (l ++ ys))) h g ∙ ap Some (append_assoc before xs ys)

pub take_past : (xs ys : List ℕ) (n : ℕ) → take (length xs + n) (xs ++ ys) ≡ xs ++ take n ys
take_past [] ys n = ap (λ k. take k ys) (omega arith)
take_past (x ∷ xs) ys n =
    let all : length (x ∷ xs) + n ≡ suc (length xs + n) = omega arith in
    ap (λ k. take k (x ∷ (xs ++ ys))) all ∙ ap (λ l. x ∷ l) (take_past xs ys n)

pub prefix_then : (a b c : Option (List ℕ)) (xs ys : List ℕ) → Takes a b xs → TakesPrefix b c ys → TakesPrefix a c (xs ++ ys)
prefix_then None b c xs ys h g = tt
prefix_then (Some before) b c xs ys h g =
    let rest = subst (λ o. IfSome o (λ l. (n : ℕ) × (c ≡ Some (l ++ take n ys)))) h g in
    (length xs + rest.0, rest.1 ∙ ap Some (append_assoc before xs (take rest.0 ys) ∙ ap (λ l. before ++ l) (sym (take_past xs ys rest.0))))

takes_nothing : (a : Option (List ℕ)) → Takes a a []
takes_nothing None = tt
takes_nothing (Some before) = ap Some (sym (append-nil before))

-- no events yet
pub nothing_goes : (levels : ℕ) (a : Option (List ℕ)) (f g : ℕ) (t : Top) → GoesTo levels 0 (record { taken_before = a; taken_after = a; faults_before = f; faults_after = g }) t t
nothing_goes levels a f g t = record { follows = refl; written = []; console = sym (append-nil (console_in t)); taken = takes_nothing a }

-- some more that wrote nothing
pub went_silently : (levels n m : ℕ) (a b : Option (List ℕ)) (f g h : ℕ) (t u v : Top) → GoesTo levels n (record { taken_before = a; taken_after = b; faults_before = f; faults_after = g }) t u → Follows levels m u v
    → console_in v ≡ console_in u → GoesTo levels (n + m) (record { taken_before = a; taken_after = b; faults_before = f; faults_after = h }) t v
went_silently levels n m a b f g h t u v goes more same = record { follows = follows_append levels n m t u v goes.follows more; written = goes.written; console = same ∙ goes.console; taken = goes.taken }

pub went_quietly : (levels n m : ℕ) (a b : Option (List ℕ)) (f g h : ℕ) (t u v : Top) → GoesTo levels n (record { taken_before = a; taken_after = b; faults_before = f; faults_after = g }) t u → Follows levels m u v
    → length (console_in v) ≤ length (console_in u) → GoesTo levels (n + m) (record { taken_before = a; taken_after = b; faults_before = f; faults_after = h }) t v
went_quietly levels n m a b f g h t u v goes more few = went_silently levels n m a b f g h t u v goes more (not_grown levels m u v more few)

-- some more of which the last wrote a piece, which the sink took
pub went_writing : (levels n m : ℕ) (a b c : Option (List ℕ)) (f g h : ℕ) (t u v : Top) → GoesTo levels n (record { taken_before = a; taken_after = b; faults_before = f; faults_after = g }) t u → Follows levels m u v
    → WritesAtLast levels m u v → length (console_in u) < length (console_in v) → Takes b c (named_bytes v) → GoesTo levels (n + m) (record { taken_before = a; taken_after = c; faults_before = f; faults_after = h }) t v
went_writing levels n m a b c f g h t u v goes more w grown taken = record {
  follows = follows_append levels n m t u v goes.follows more;
  written = goes.written ++ named_bytes v;
  console = (written_last levels m u v w grown).1 ∙ ap (λ l. l ++ named_bytes v) goes.console ∙ append_assoc (console_in t) goes.written (named_bytes v);
  taken = takes_then a b c goes.written (named_bytes v) goes.taken taken;
}

-- or of which it took a part
pub stopped_writing : (levels n m : ℕ) (a b c : Option (List ℕ)) (f g h : ℕ) (t u v : Top) → f ≤ g → GoesTo levels n (record { taken_before = a; taken_after = b; faults_before = f; faults_after = g }) t u
    → WritesAtLast levels m u v → length (console_in u) < length (console_in v) → StopsWithin (record { taken_before = b; taken_after = c; faults_before = g; faults_after = h }) (named_bytes v)
    → StopsAtLast levels (record { taken_before = a; taken_after = c; faults_before = f; faults_after = h }) t v
stopped_writing levels n m a b c f g h t u v le goes w grown stops = record {
  before = n + w.before;
  top = w.top;
  follows = follows_append levels n w.before t u w.top goes.follows w.follows;
  last = w.last;
  early = goes.written;
  console = w.quiet ∙ goes.console;
  piece = named_bytes v;
  wrote = (written_last levels m u v w grown).1 ∙ ap (λ l. l ++ named_bytes v) (sym w.quiet);
  count = stops.0.0;
  taken = takes_then a b c goes.written (take stops.0.0 (named_bytes v)) goes.taken stops.0.1.1;
  not_all = stops.0.1.0;
  fault = (let rose = stops.1 in omega (arith, le, rose));
}

pub partly_writing : (levels n m : ℕ) (a b c : Option (List ℕ)) (f g h i : ℕ) (t u v : Top) → GoesTo levels n (record { taken_before = a; taken_after = b; faults_before = f; faults_after = g }) t u → Follows levels m u v
    → WritesAtLast levels m u v → length (console_in u) < length (console_in v) → TakesPrefix b c (named_bytes v) → GoesPartlyTo levels (record { taken_before = a; taken_after = c; faults_before = h; faults_after = i }) t v
partly_writing levels n m a b c f g h i t u v goes more w grown prefix = record {
  ran = n + m;
  follows = follows_append levels n m t u v goes.follows more;
  written = goes.written ++ named_bytes v;
  console = (written_last levels m u v w grown).1 ∙ ap (λ l. l ++ named_bytes v) goes.console ∙ append_assoc (console_in t) goes.written (named_bytes v);
  prefix = prefix_then a b c goes.written (named_bytes v) goes.taken prefix;
}

-- however it has gone on, a space is as sound
pub sound_in_all : {E : Type 0} (r : Result Advance E) (levels quantum : ℕ) (o : Output) (t u : Top) → IfOk r (λ a. AdvancesTo levels quantum a o t u) → OnErr r (GoesPartlyTo levels o t u)
    → (fuel : ℕ) (root : Bool) → IsSoundTop fuel root t → IsSoundTop fuel root u
sound_in_all (Ok a) levels quantum o t u went part fuel root ok = follows_sound levels a.ran fuel root t u went.goes.follows ok
sound_in_all (Err e) levels quantum o t u went part fuel root ok = follows_sound levels part.ran fuel root t u part.follows ok
