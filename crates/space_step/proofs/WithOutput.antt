-- Local events one after the other, and what they write to the console of their space.
use Rattle.std.proofs.Common.{◌≡◌, ℕ, zero, suc, ◌+◌, ◌-◌, ◌^◌, ◌≤◌, ◌<◌, inl, inr, List, [], ◌++◌, length, append_assoc, length-append, Option, Some, None, refl, sym, ◌∙◌, ap, subst, arith}
use Rattle.std.proofs.lemmas.List.{append-nil, nil_from_length}
use Rattle.space_model.specs.Space.{Top}
use Rattle.space_model.specs.Event.{moves, next, Follows}
use Rattle.run_model.specs.Console.{console_in, most_output}
use Rattle.run_model.proofs.Console.{event_grows, follows_grows}
use Rattle.space_step.specs.declared.event.Next.{Next}
use Rattle.space_step.specs.declared.event.Next.TheVariants.{Local, Meet, Stopped}
use Rattle.space_step.specs.Running.{IsBlocked, WritesAtLast}
use Rattle.space_step.specs.Output.{IsTold, GoesWithOutput, EndedWithOutput, named_bytes, named_from, named_length}
use Rattle.space_step.proofs.Following.{follows_append}
use Rattle.space_step.proofs.Told.{event_told}

-- all but the last of some events, and the last
last_event : (levels k : ℕ) (t v : Top) → Follows levels (suc k) t v → (u : Top) × (Follows levels k t u × (next levels u ≡ moves v))
last_event levels zero t v f = (t, (refl, f.1 ∙ ap moves (sym f.2)))
last_event levels (suc k) t v f = let r = last_event levels k f.0 v f.2 in (r.0, ((f.0, f.1, r.1.0), r.1.1))

none_more : (xs a b : List ℕ) → xs ≡ (xs ++ a) ++ b → a ≡ []
none_more xs a b e =
    let all = ap length e ∙ length-append (xs ++ a) b in
    nil_from_length a (omega (arith, all, length-append xs a))

-- where a console has not grown by some events, it had not before the last of them
quiet_last : (levels k : ℕ) (t v : Top) → Follows levels (suc k) t v → console_in v ≡ console_in t → WritesAtLast levels (suc k) t v
quiet_last levels k t v f same =
    let e = last_event levels k t v f in
    let first = follows_grows levels k t e.0 e.1.0 in
    let after = event_grows levels e.0 v e.1.1 in
    let none : first.0 ≡ [] = none_more (console_in t) first.0 after.0 (sym same ∙ after.1.1 ∙ ap (λ l. l ++ after.0) first.1.1) in
    record { before = k; top = e.0; count = refl; follows = e.1.0; quiet = first.1.1 ∙ ap (λ l. console_in t ++ l) none ∙ append-nil (console_in t); last = e.1.1 }

pub some_quiet : (levels n : ℕ) (t v : Top) → 1 ≤ n → Follows levels n t v → console_in v ≡ console_in t → WritesAtLast levels n t v
some_quiet levels zero t v h f same = absurd (omega arith)
some_quiet levels (suc k) t v h f same = quiet_last levels k t v f same

pub one_writes : (levels : ℕ) (t u : Top) → next levels t ≡ moves u → WritesAtLast levels 1 t u
one_writes levels t u e = record { before = 0; top = t; count = refl; follows = refl; quiet = refl; last = e }

pub one_more_writes : (levels n : ℕ) (t u v : Top) → Follows levels n t u → u.devices ≡ t.devices → next levels u ≡ moves v → WritesAtLast levels (n + 1) t v
one_more_writes levels n t u v f same e = record { before = n; top = u; count = omega arith; follows = f; quiet = ap (λ d. console_in (record t { devices = d })) same; last = e }

-- no events yet
pub nothing_goes : (levels enough : ℕ) (ready : List ℕ) (t : Top) → GoesWithOutput levels enough 0 ready ready t t
nothing_goes levels enough ready t = record { follows = refl; written = []; console = sym (append-nil (console_in t)); appended = sym (append-nil ready); last = λ before e. absurd (omega (arith, e)) }

-- some more, where there was not enough
went_on : (levels enough n m : ℕ) (ready now more output : List ℕ) (t u v : Top) → GoesWithOutput levels enough n ready now t u → length now < enough → Follows levels m u v → WritesAtLast levels m u v
    → console_in v ≡ console_in u ++ more → output ≡ now ++ more → GoesWithOutput levels enough (n + m) ready output t v
went_on levels enough n m ready now more output t u v g few f w wrote is = record {
  follows = follows_append levels n m t u v g.follows f;
  written = g.written ++ more;
  console = wrote ∙ ap (λ l. l ++ more) g.console ∙ append_assoc (console_in t) g.written more;
  appended = is ∙ ap (λ l. l ++ more) g.appended ∙ append_assoc ready g.written more;
  last = λ before e.
      (let k : n + w.before ≡ before = omega (arith, e, w.count) in
      record {
        top = w.top;
        early = g.written;
        follows = subst (λ j. Follows levels j t w.top) k (follows_append levels n w.before t u w.top g.follows w.follows);
        console = w.quiet ∙ g.console;
        few = subst (λ l. length l < enough) g.appended few;
        last = w.last;
      });
}

-- a console that has not grown is as it was
pub not_grown : (levels m : ℕ) (u v : Top) → Follows levels m u v → length (console_in v) ≤ length (console_in u) → console_in v ≡ console_in u
not_grown levels m u v f h =
    let g = follows_grows levels m u v f in
    let long = ap length g.1.1 ∙ length-append (console_in u) g.0 in
    let none : g.0 ≡ [] = nil_from_length g.0 (omega (arith, long, h)) in
    g.1.1 ∙ ap (λ l. console_in u ++ l) none ∙ append-nil (console_in u)

pub went_quietly : (levels enough n m : ℕ) (ready now : List ℕ) (t u v : Top) → GoesWithOutput levels enough n ready now t u → length now < enough → Follows levels m u v → WritesAtLast levels m u v
    → length (console_in v) ≤ length (console_in u) → GoesWithOutput levels enough (n + m) ready now t v
went_quietly levels enough n m ready now t u v g few f w h =
    went_on levels enough n m ready now [] now t u v g few f w (not_grown levels m u v f h ∙ sym (append-nil (console_in u))) (sym (append-nil now))

-- what the last event wrote
pub written_last : (levels m : ℕ) (u v : Top) → WritesAtLast levels m u v → length (console_in u) < length (console_in v)
    → (named_from v + named_length v ≤ 2 ^ 32) × (console_in v ≡ console_in u ++ named_bytes v)
written_last levels m u v w h = go (event_told levels w.top v w.last)
  where
    go : IsTold w.top v → (named_from v + named_length v ≤ 2 ^ 32) × (console_in v ≡ console_in u ++ named_bytes v)
    go (inl same) = let all = ap length (same ∙ w.quiet) in absurd (omega (arith, all, h))
    go (inr told) = (told.0, told.1 ∙ ap (λ l. l ++ named_bytes v) w.quiet)

pub went_writing : (levels enough n m : ℕ) (ready now output : List ℕ) (t u v : Top) → GoesWithOutput levels enough n ready now t u → length now < enough → Follows levels m u v → WritesAtLast levels m u v
    → length (console_in u) < length (console_in v) → output ≡ now ++ named_bytes v → GoesWithOutput levels enough (n + m) ready output t v
went_writing levels enough n m ready now output t u v g few f w h is =
    went_on levels enough n m ready now (named_bytes v) output t u v g few f w (written_last levels m u v w h).1 is

-- and where something blocks
pub blocked_goes : (levels enough n m : ℕ) (ready now : List ℕ) (t u v : Top) → GoesWithOutput levels enough n ready now t u → length now < enough → Follows levels m u v
    → console_in v ≡ console_in u → GoesWithOutput levels enough (n + m) ready now t v
blocked_goes levels enough n zero ready now t u v g few f same =
    subst (λ (w : Top). GoesWithOutput levels enough (n + 0) ready now t w) (sym f) (subst (λ k. GoesWithOutput levels enough k ready now t u) (omega arith) g)
blocked_goes levels enough n (suc k) ready now t u v g few f same =
    went_on levels enough n (suc k) ready now [] now t u v g few f (quiet_last levels k u v f same) (same ∙ sym (append-nil (console_in u))) (sym (append-nil now))

pub blocked_ends : (levels quantum enough ran n : ℕ) (o : Option Next) (output : List ℕ) (t : Top) → n < quantum - ran → IsBlocked levels o t → EndedWithOutput levels quantum enough (ran + n) o output t
blocked_ends levels quantum enough ran n None output t h b = (omega arith, b)
blocked_ends levels quantum enough ran n (Some Local) output t h b = absurd b
blocked_ends levels quantum enough ran n (Some (Meet k)) output t h b = (omega arith, b)
blocked_ends levels quantum enough ran n (Some Stopped) output t h b = (omega arith, b)

-- how many bytes are ready
none_written : (levels enough n : ℕ) (ready output : List ℕ) (t u : Top) → GoesWithOutput levels enough n ready output t u → n ≡ 0 → length output ≡ length ready
none_written levels enough zero ready output t u g e =
    let none : g.written ≡ [] = none_more (console_in t) g.written [] (ap console_in (sym g.follows) ∙ g.console ∙ sym (append-nil (console_in t ++ g.written))) in
    ap length (g.appended ∙ ap (λ l. ready ++ l) none ∙ append-nil ready)
none_written levels enough (suc k) ready output t u g e = absurd (omega (arith, e))

pub all_went : (levels quantum enough ran : ℕ) (ready output : List ℕ) (t u : Top) → GoesWithOutput levels enough ran ready output t u → length ready < enough → 1 ≤ quantum → ran ≤ quantum
    → (ran < quantum → enough ≤ length output) → EndedWithOutput levels quantum enough ran (Some Local) output u
all_went levels quantum enough zero ready output t u g few some within h =
    let same = none_written levels enough 0 ready output t u g refl in
    let full = h (omega arith) in
    absurd (omega (arith, same, full))
all_went levels quantum enough (suc k) ready output t u g few some within h = (omega arith, within, h)

pub output_bound : (levels enough n : ℕ) (ready output : List ℕ) (t u : Top) → GoesWithOutput levels enough n ready output t u → length ready < enough → length output < enough + most_output
output_bound levels enough zero ready output t u g few = let same = none_written levels enough 0 ready output t u g refl in omega (arith, same)
output_bound levels enough (suc k) ready output t u g few =
    let l = g.last k refl in
    let w = event_grows levels l.top u l.last in
    let all = ap length (sym g.console ∙ w.1.1 ∙ ap (λ xs. xs ++ w.0) l.console) in
    let now = ap length g.appended ∙ length-append ready g.written in
    omega (arith, all, now, w.1.0, l.few, length-append (console_in t) g.written, length-append (console_in t ++ l.early) w.0, length-append (console_in t) l.early, length-append ready l.early)
