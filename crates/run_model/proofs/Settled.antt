-- A space settles by running, and then its children settle, each by itself; and then no space in it runs.
use Rattle.std.proofs.Common.{◌≡◌, ℕ, zero, suc, pred, ◌≤◌, ◌≢◌, Bool, true, false, Some, refl, sym, ap, ◌∙◌, arith}
use Rattle.std.proofs.lemmas.Bool.Decides.{nat_tests}
use Rattle.space_model.specs.Stop.{is_stopped}
use Rattle.space_model.specs.Space.{Space, space, Children, none, child, top_of, children_of, find, has, over, is_settled, are_settled}
use Rattle.space_model.specs.Sound.{IsSoundAt, AreSound, IsSound}
use Rattle.space_model.specs.Path.{under}
use Rattle.space_model.specs.declared.Reach.TheVariants.{Whole}
use Rattle.space_model.proofs.Sound.{no_children}
use Rattle.run_model.specs.Demand.{Meaning, wait_for, wait_for_child, everyone, no_events, meaning, run, settle, settle_tree}
use Rattle.run_model.proofs.Run.{run-stops}
use Rattle.run_model.proofs.Sound.{run_sound, settle_sound}

-- f of every child
abbrev pub each : (Space → Space) → Children → Children
each f none = none
each f (child n s rest) = child n (f s) (each f rest)

-- these children, and then those
abbrev join : Children → Children → Children
join none ds = ds
join (child n s rest) ds = child n s (join rest ds)

find-join : (n : ℕ) (p ds : Children) → has n p ≡ false → find n (join p ds) ≡ find n ds
find-join n none ds un = refl
find-join n (child m s rest) ds un = grind (arith, nat_tests, find-join n rest ds)

over-join : (n : ℕ) (f : Space → Space) (p ds : Children) → has n p ≡ false → over n f (join p ds) ≡ join p (over n f ds)
over-join n f none ds un = refl
over-join n f (child m s rest) ds un = grind (arith, nat_tests, over-join n f rest ds)

has-join : (n m : ℕ) (s : Space) (p : Children) → has n p ≡ false → n ≢ m → has n (join p (child m s none)) ≡ false
has-join n m s none un ne = grind (arith, nat_tests)
has-join n m s (child k c rest) un ne = grind (arith, nat_tests, has-join n m s rest)

join-join : (n : ℕ) (s : Space) (p ds : Children) → join (join p (child n s none)) ds ≡ join p (child n s ds)
join-join n s none ds = refl
join-join n s (child m c rest) ds = ap (child m c) (join-join n s rest ds)

find_first : (n : ℕ) (s : Space) (rest : Children) → find n (child n s rest) ≡ Some s
find_first n s rest = grind (arith, nat_tests)

over_first : (n : ℕ) (f : Space → Space) (s : Space) (rest : Children) → over n f (child n s rest) ≡ child n (f s) rest
over_first n f s rest = grind (arith, nat_tests)

-- every child of rising number is awaited once
everyone-join : (f : Meaning) (levels fuel least : ℕ) (p cs : Children) → AreSound levels fuel least cs → ((m : ℕ) → least ≤ m → has m p ≡ false)
    → (wait_for f (everyone cs) (join p cs)).children ≡ join p (each (λ c. (f Whole c).space) cs)
everyone-join f levels fuel least p none ok before = refl
everyone-join f zero fuel least p (child n s rest) ok before = absurd ok
everyone-join f (suc levels) fuel least p (child n s rest) ok before =
    let new = (f Whole s).space in
    let un : has n p ≡ false = before n ok.0 in
    let at : find n (join p (child n s rest)) ≡ Some s = find-join n p (child n s rest) un ∙ find_first n s rest in
    let one : over n (λ d. new) (join p (child n s rest)) ≡ join (join p (child n new none)) rest =
    over-join n (λ d. new) p (child n s rest) un ∙ ap (join p) (over_first n (λ d. new) s rest) ∙ sym (join-join n new p rest) in
    let first : (wait_for_child f (record { number = n; reach = Whole }) (join p (child n s rest)) (find n (join p (child n s rest)))).children ≡ join (join p (child n new none)) rest = rw at one in
    let after : (m : ℕ) → suc n ≤ m → has m (join p (child n new none)) ≡ false = λ m h. (let low : least ≤ m = omega (arith, ok.0) in let ne : m ≢ n = omega arith in has-join m n new p (before m low) ne) in
    ap (λ ds. (wait_for f (everyone rest) ds).children) first ∙ everyone-join f (suc levels) fuel (suc n) (join p (child n new none)) rest ok.3 after ∙ join-join n new p (each (λ c. (f Whole c).space) rest)

pub everyone-each : (f : Meaning) (levels fuel : ℕ) (cs : Children) → AreSound levels fuel 0 cs → (wait_for f (everyone cs) cs).children ≡ each (λ c. (f Whole c).space) cs
everyone-each f levels fuel cs ok = everyone-join f levels fuel 0 none cs ok (λ m h. refl)

under-each : (f : Meaning) (levels : ℕ) (root : Bool) (fuel : ℕ) (s : Space) → IsSoundAt levels root fuel s
    → space (top_of s) (wait_for f (everyone (children_of s)) (children_of s)).children ≡ under (each (λ c. (f Whole c).space)) s
under-each f levels root fuel (space t cs) ok = ap (space t) (everyone-each f levels fuel cs ok.1)

under_none : (f g : Space → Space) (root : Bool) (fuel : ℕ) (s : Space) → IsSoundAt zero root fuel s → under (each f) s ≡ under (each g) s
under_none f g root fuel (space t cs) ok = let same : cs ≡ none = no_children fuel 0 cs ok.1 in rw same refl

-- a sound space settles by running, and then each of its children settles
pub settle-each : (levels : ℕ) (root : Bool) (fuel : ℕ) (s : Space) → IsSoundAt levels root fuel s → settle levels s ≡ under (each (settle (pred levels))) (run levels s)
unfolding meaning
settle-each zero root fuel s ok =
    let ran = run_sound zero root fuel s ok in
    under-each no_events zero root fuel (run zero s) ran ∙ under_none (λ c. c) (settle zero) root fuel (run zero s) ran
settle-each (suc levels) root fuel s ok = under-each (meaning levels) (suc levels) root fuel (run (suc levels) s) (run_sound (suc levels) root fuel s ok)

-- then no space in it runs
each_settled : (f : Space → Space) (levels fuel least : ℕ) (cs : Children) → AreSound levels fuel least cs → ((c : Space) → IsSoundAt (pred levels) false fuel c → is_settled (f c) ≡ true) → are_settled (each f cs) ≡ true
each_settled f levels fuel least none ok all = refl
each_settled f zero fuel least (child n s rest) ok all = absurd ok
each_settled f (suc levels) fuel least (child n s rest) ok all = let first = all s ok.2 in rw first (each_settled f (suc levels) fuel (suc n) rest ok.3 all)

under_settled : (f : Space → Space) (levels : ℕ) (root : Bool) (fuel : ℕ) (s : Space) → IsSoundAt levels root fuel s → ((c : Space) → IsSoundAt (pred levels) false fuel c → is_settled (f c) ≡ true)
    → is_stopped (top_of s).status ≡ true → is_settled (under (each f) s) ≡ true
under_settled f levels root fuel (space t cs) ok all stopped = rw stopped (each_settled f levels fuel 0 cs ok.1 all)

pub settle-settled : (levels : ℕ) (root : Bool) (fuel : ℕ) (s : Space) → IsSoundAt levels root fuel s → is_settled (settle levels s) ≡ true
settle-settled zero root fuel s ok =
    rw (settle-each zero root fuel s ok, under_none (settle zero) (λ c. c) root fuel (run zero s) (run_sound zero root fuel s ok))
    (last_settled (run zero s) (run_sound zero root fuel s ok) (run-stops zero s))
  where
    last_settled : (r : Space) → IsSoundAt zero root fuel r → is_stopped (top_of r).status ≡ true → is_settled (under (each (λ c. c)) r) ≡ true
    last_settled (space t cs) h stopped = let same : cs ≡ none = no_children fuel 0 cs h.1 in rw (stopped, same) refl
settle-settled (suc levels) root fuel s ok =
    rw (settle-each (suc levels) root fuel s ok)
    (under_settled (settle levels) (suc levels) root fuel (run (suc levels) s) (run_sound (suc levels) root fuel s ok) (λ c h. settle-settled levels false fuel c h) (run-stops (suc levels) s))

-- a whole tree
pub settled_sound : (s : Space) → IsSound s → IsSound (settle_tree s)
settled_sound s ok = (ok.0, (ok.1.0, ok.1.1, settle_sound 8 true ok.0 s ok.1.2))

pub settled-settled : (s : Space) → IsSound s → is_settled (settle_tree s) ≡ true
settled-settled s ok = settle-settled 8 true ok.0 s ok.1.2
