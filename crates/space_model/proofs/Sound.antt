-- What looking up, changing and putting a child, at a path too, and what a call does to a space keep of a sound tree.
-- Forms for callers: `find_sound` is of a child that was found, `over_sound` and `put_sound` of one that was changed or put,
-- `with_top_sound` and `with_space_sound` of what stands at a path, `height_within` of how many levels of children there are,
-- and `meet_sound` of a call.
use Rattle.std.proofs.Common.{◌≡◌, ℕ, zero, suc, pred, ◌+◌, ◌-◌, ◌==◌, ◌≤◌, ◌<◌, ◌≢◌, Bool, true, false, cond, List, [], ◌∷◌, ◌++◌, length, get_or, Option, Some, None, refl, ap, ap₂, ◌∙◌, subst, arith, nat_lt}
use Rattle.std.proofs.lemmas.Bool.Decides.{nat_tests}
use Rattle.std.specs.Prelude.{option_map, if◌then◌else◌}
use Rattle.memory_model.specs.Memory.{Memory}
use Rattle.call_model.specs.declared.Call.{Call}
use Rattle.call_model.specs.declared.Call.TheVariants.{Put, PutTree, Get, GetTree, Fork, Wait, Tfork, Tjoin, Qstart, Qcommit, File}
use Rattle.call_model.specs.declared.FileCall.{FileCall}
use Rattle.call_model.specs.declared.FileCall.TheVariants.{New}
use Rattle.call_model.specs.Calls.{meets_children, kind_in}
use Rattle.call_model.specs.Limits.{IsChild}
use Rattle.space_model.specs.declared.Refusal.{Refusal}
use Rattle.space_model.specs.Space.{Space, space, Children, none, child, Top, top_of, children_of, find, over, has, enter, put_child, remove_child, height, levels_of}
use Rattle.space_model.specs.Sound.{has_devices, IsSoundTop, IsSoundAt, AreSound}
use Rattle.space_model.specs.Path.{with_top, with_space, is_root}
use Rattle.space_model.specs.Change.{after_payment, after_success}
use Rattle.space_model.specs.Call.{Edit, change, place, take_away, Meeting, below, seen_of, copy_to, edit, edit_all, apply_meeting}
use Rattle.space_model.specs.Commit.{commits}
use Rattle.space_model.specs.Quanta.{Thread, waits, threads, count_waiting, after_start, starts, writings, renewal, renewals}
use Rattle.space_model.specs.Part.{Part, snapshot_part, child_after, caller_after}
use Rattle.space_model.specs.Runtime.{after_fork, after_thread_fork, after_join, after_wait}
use Rattle.space_model.specs.Event.{MayPay}
use Rattle.space_model.specs.Meeting.{MayMeet, in_row, awaits, meet, or_fresh, test_refusal, height_refusal, refusals, action, unless_refused}
use Rattle.space_model.specs.Refusals.{first_refusal}
use Rattle.space_model.proofs.Parts.{IsAlike, child_alike, caller_alike, fork_alike, thread_fork_alike, join_alike, wait_alike}

same_number : (n m : ℕ) → (n == m) ≡ true → n ≡ m
same_number n m e = grind (arith, nat_tests)

-- a child that was found is sound one level below, and its number fits
pub find_sound : (levels fuel least n : ℕ) (cs : Children) (c : Space) → AreSound (suc levels) fuel least cs → find n cs ≡ Some c → (IsChild n) × IsSoundAt levels false fuel c
find_sound levels fuel least n none c ok is = cc
find_sound levels fuel least n (child m s rest) c ok is = go (n == m) refl is (λ at. find_sound levels fuel (suc m) n rest c ok.3 at)
  where
    go : (b : Bool) → (n == m) ≡ b → cond b (Some s) (find n rest) ≡ Some c → (find n rest ≡ Some c → (IsChild n) × IsSoundAt levels false fuel c) → (IsChild n) × IsSoundAt levels false fuel c
    go true e at later =
        let number : n ≡ m = same_number n m e in
        let same : s ≡ c = cc in
        (rw number ok.1, subst (IsSoundAt levels false fuel) same ok.2)
    go false e at later = later at

-- there is no child at the last level
pub no_children : (fuel least : ℕ) (cs : Children) → AreSound zero fuel least cs → cs ≡ none
no_children fuel least none ok = refl
no_children fuel least (child n s rest) ok = absurd ok

pub no_child : (fuel least n : ℕ) (cs : Children) → AreSound zero fuel least cs → find n cs ≡ None
no_child fuel least n none ok = refl
no_child fuel least n (child m s rest) ok = absurd ok

-- a child below the least number is not there
pub below_least : (levels fuel least n : ℕ) (cs : Children) → AreSound levels fuel least cs → n < least → find n cs ≡ None
below_least levels fuel least n none ok under_least = refl
below_least zero fuel least n (child m s rest) ok under_least = absurd ok
below_least (suc levels) fuel least n (child m s rest) ok under_least =
    let first : least ≤ m = ok.0 in
    let later : n < suc m = omega arith in
    let tail = below_least (suc levels) fuel (suc m) n rest ok.3 later in
    let other : n ≢ m = omega arith in
    grind (arith, nat_tests)

-- a change of one child that keeps it sound; at the last level there is none
pub over_sound : (levels fuel least n : ℕ) (f : Space → Space) (cs : Children) → AreSound levels fuel least cs
    → ((c : Space) → find n cs ≡ Some c → IsSoundAt (pred levels) false fuel c → IsSoundAt (pred levels) false fuel (f c)) → AreSound levels fuel least (over n f cs)
over_sound levels fuel least n f none ok kept = tt
over_sound zero fuel least n f (child m s rest) ok kept = absurd ok
over_sound (suc levels) fuel least n f (child m s rest) ok kept =
    go (n == m) refl (λ e. kept s (rw e refl) ok.2) (λ e. over_sound (suc levels) fuel (suc m) n f rest ok.3 (λ c at. kept c (rw e at)))
  where
    go : (b : Bool) → (n == m) ≡ b → ((n == m) ≡ true → IsSoundAt levels false fuel (f s)) → ((n == m) ≡ false → AreSound (suc levels) fuel (suc m) (over n f rest)) → AreSound (suc levels) fuel least (cond b (child m (f s) rest) (child m s (over n f rest)))
    go true e here later = (ok.0, ok.1, here e, ok.3)
    go false e here later = (ok.0, ok.1, ok.2, later e)

-- the same of a child that was found and what it becomes
pub over_found_sound : (levels fuel least n : ℕ) (f : Space → Space) (c : Space) (cs : Children) → AreSound levels fuel least cs
    → find n cs ≡ Some c → IsSoundAt (pred levels) false fuel (f c) → AreSound levels fuel least (over n f cs)
over_found_sound levels fuel least n f c cs ok is new =
    over_sound levels fuel least n f cs ok (λ d at h. let same : c ≡ d = cc in subst (λ x. IsSoundAt (pred levels) false fuel (f x)) same new)

enter_sound : (levels fuel least n : ℕ) (s : Space) (cs : Children) → AreSound (suc levels) fuel least cs → has n cs ≡ false → least ≤ n → IsChild n → IsSoundAt levels false fuel s → AreSound (suc levels) fuel least (enter n s cs)
enter_sound levels fuel least n s none ok un low high new = (low, high, new, tt)
enter_sound levels fuel least n s (child m c rest) ok un low high new =
    let other : n ≢ m = λ e. (let same : (n == m) ≡ true = grind (arith, nat_tests) in cc) in
    go other (nat_lt n m) refl (λ next. enter_sound levels fuel (suc m) n s rest ok.3 (grind (arith, nat_tests)) next high new)
  where
    go : n ≢ m → (b : Bool) → nat_lt n m ≡ b → (suc m ≤ n → AreSound (suc levels) fuel (suc m) (enter n s rest)) → AreSound (suc levels) fuel least (cond b (child n s (child m c rest)) (child m c (enter n s rest)))
    go other true e later = let before : suc n ≤ m = grind (arith, nat_tests) in (low, high, new, (before, ok.1, ok.2, ok.3))
    go other false e later = let after : m ≤ n = grind (arith, nat_tests) in let past : suc m ≤ n = omega (arith, other) in (ok.0, ok.1, ok.2, later past)

-- a child put in the place of the one there, or as a new one
pub put_sound : (levels fuel n : ℕ) (s : Space) (cs : Children) → 1 ≤ levels → AreSound levels fuel 0 cs → IsChild n → IsSoundAt (pred levels) false fuel s → AreSound levels fuel 0 (put_child n s cs)
put_sound zero fuel n s cs some ok high new = absurd (omega arith)
put_sound (suc levels) fuel n s cs some ok high new = go (has n cs) refl
  where
    go : (b : Bool) → has n cs ≡ b → AreSound (suc levels) fuel 0 (put_child n s cs)
    go true is = rw is (over_sound (suc levels) fuel 0 n (λ c. s) cs ok (λ c at h. new))
    go false is = let low : 0 ≤ n = omega arith in rw is (enter_sound levels fuel 0 n s cs ok is low high new)

is_root-false : (p : List ℕ) → is_root false p ≡ false
is_root-false [] = refl
is_root-false (n ∷ p) = refl

-- another top at a path
pub with_top_sound : (p : List ℕ) (levels : ℕ) (root : Bool) (fuel : ℕ) (t : Top) (s : Space) → IsSoundTop fuel (is_root root p) t → IsSoundAt levels root fuel s → IsSoundAt levels root fuel (with_top p t s)
with_top_sound [] levels root fuel t (space u cs) top ok = (top, ok.1)
with_top_sound (n ∷ p) levels root fuel t (space u cs) top ok =
    let inner : IsSoundTop fuel (is_root false p) t = rw (is_root-false p) top in
    (ok.0, over_sound levels fuel 0 n (with_top p t) cs ok.1 (λ c at h. with_top_sound p (pred levels) false fuel t c inner h))

-- a space put at a path, whose numbers fit as a slice of u16 has them
pub with_space_sound : (p : List ℕ) (levels : ℕ) (root : Bool) (fuel : ℕ) (r s : Space) → length p ≤ levels → ((k : ℕ) → IsChild (get_or p k 0)) → IsSoundAt (levels - length p) (is_root root p) fuel r → IsSoundAt levels root fuel s → IsSoundAt levels root fuel (with_space p r s)
with_space_sound [] levels root fuel r s long fit new ok = let same : levels - 0 ≡ levels = omega arith in subst (λ k. IsSoundAt k root fuel r) same new
with_space_sound (n ∷ []) levels root fuel r (space t cs) long fit new ok =
    let some : 1 ≤ levels = omega arith in
    let same : levels - 1 ≡ pred levels = omega arith in
    (ok.0, put_sound levels fuel n r cs some ok.1 (fit 0) (subst (λ k. IsSoundAt k false fuel r) same new))
with_space_sound (n ∷ m ∷ p) levels root fuel r (space t cs) long fit new ok =
    let shorter : length (m ∷ p) ≤ pred levels = omega arith in
    let same : levels - length (n ∷ m ∷ p) ≡ pred levels - length (m ∷ p) = omega arith in
    let inner : IsSoundAt (pred levels - length (m ∷ p)) false fuel r = subst (λ k. IsSoundAt k false fuel r) same new in
    (ok.0, over_sound levels fuel 0 n (with_space (m ∷ p) r) cs ok.1 (λ c at h. with_space_sound (m ∷ p) (pred levels) false fuel r c shorter (λ k. fit (suc k)) inner h))

-- a top that has paid for an event
pub paid_sound : (fuel : ℕ) (root : Bool) (t u : Top) → 0 < t.fuel → IsSoundTop fuel root t → IsSoundTop fuel root u → IsSoundTop fuel root (after_payment t u)
paid_sound fuel root t u some old new = let total = old.sum in record { sum = omega arith; devices = new.devices }

-- a top with a sound one's fuel, use and devices
alike_sound : (fuel : ℕ) (root : Bool) (t u : Top) → IsAlike t u → IsSoundTop fuel root t → IsSoundTop fuel root u
alike_sound fuel root t u a ok = record { sum = ap₂ (λ m n. m + n) a.fuel a.used ∙ ok.sum; devices = ap has_devices a.devices ∙ ok.devices }

-- sound children stay so without one of them, and of any lower least number
least_sound : (levels fuel least low : ℕ) (cs : Children) → low ≤ least → AreSound levels fuel least cs → AreSound levels fuel low cs
least_sound levels fuel least low none lower ok = tt
least_sound zero fuel least low (child m s rest) lower ok = absurd ok
least_sound (suc levels) fuel least low (child m s rest) lower ok = let first : least ≤ m = ok.0 in (omega arith, ok.1, ok.2, ok.3)

remove_sound : (levels fuel least n : ℕ) (cs : Children) → AreSound levels fuel least cs → AreSound levels fuel least (remove_child n cs)
remove_sound levels fuel least n none ok = tt
remove_sound zero fuel least n (child m s rest) ok = absurd ok
remove_sound (suc levels) fuel least n (child m s rest) ok = go (n == m) (remove_sound (suc levels) fuel (suc m) n rest ok.3)
  where
    go : (b : Bool) → AreSound (suc levels) fuel (suc m) (remove_child n rest) → AreSound (suc levels) fuel least (cond b rest (child m s (remove_child n rest)))
    go true later = let first : least ≤ m = ok.0 in let lower : least ≤ suc m = omega arith in least_sound (suc levels) fuel (suc m) least rest lower ok.3
    go false later = (ok.0, ok.1, ok.2, later)

-- a sound space has at most its levels below it, and is sound wherever it fits
mutual
  pub height_within : (levels : ℕ) (root : Bool) (fuel : ℕ) (s : Space) → IsSoundAt levels root fuel s → height s ≤ levels
  height_within levels root fuel (space t cs) ok = levels_within levels fuel 0 cs ok.1

  levels_within : (levels fuel least : ℕ) (cs : Children) → AreSound levels fuel least cs → levels_of cs ≤ levels
  levels_within levels fuel least none ok = omega arith
  levels_within zero fuel least (child n s rest) ok = absurd ok
  levels_within (suc levels) fuel least (child n s rest) ok =
      let one = height_within levels false fuel s ok.2 in
      let others = levels_within (suc levels) fuel (suc n) rest ok.3 in
      omega (arith, one, others)

mutual
  fits_sound : (levels below : ℕ) (root : Bool) (fuel : ℕ) (s : Space) → IsSoundAt levels root fuel s → height s ≤ below → IsSoundAt below root fuel s
  fits_sound levels below root fuel (space t cs) ok fits = (ok.0, all_fit levels below fuel 0 cs ok.1 fits)

  all_fit : (levels below fuel least : ℕ) (cs : Children) → AreSound levels fuel least cs → levels_of cs ≤ below → AreSound below fuel least cs
  all_fit levels below fuel least none ok fits = tt
  all_fit zero below fuel least (child n s rest) ok fits = absurd ok
  all_fit (suc levels) zero fuel least (child n s rest) ok fits = absurd (omega (arith, fits))
  all_fit (suc levels) (suc below) fuel least (child n s rest) ok fits =
      let one : height s ≤ below = omega (arith, fits) in
      let others : levels_of rest ≤ suc below = omega (arith, fits) in
      (ok.0, ok.1, fits_sound levels below false fuel s ok.2 one, all_fit (suc levels) (suc below) fuel (suc n) rest ok.3 others)

-- a child as a call changes its top
child_sound : (levels : ℕ) (fuel : ℕ) (p : Part) (u : Top) (root : Bool) (o : Option Space) → IsSoundTop fuel root u → ((c : Top) → IsAlike c (p c))
    → ((c : Space) → o ≡ Some c → IsSoundAt levels false fuel c) → IsSoundAt levels false fuel (space (p (or_fresh u (option_map top_of o))) (below o))
child_sound levels fuel p u root None top alike found =
    let total = top.sum in
    let c = or_fresh u None in
    let ok : IsSoundTop fuel false c = record { sum = omega arith; devices = refl } in
    (alike_sound fuel false c (p c) (alike c) ok, tt)
child_sound levels fuel p u root (Some (space t cs)) top alike found = let ok = found (space t cs) refl in (alike_sound fuel false t (p t) (alike t) ok.0, ok.1)

-- the same of any sound children
pub found_sound : (levels fuel n : ℕ) (cs : Children) → AreSound levels fuel 0 cs → (c : Space) → find n cs ≡ Some c → IsSoundAt (pred levels) false fuel c
found_sound zero fuel n cs ok c is = let none = no_child fuel 0 n cs ok in cc
found_sound (suc levels) fuel n cs ok c is = (find_sound levels fuel 0 n cs c ok is).1

-- a child that becomes a copy of a space which fits, or goes
copied_sound : (levels fuel n : ℕ) (o : Option Space) (cs : Children) → IsChild n → AreSound levels fuel 0 cs
    → ((s : Space) → o ≡ Some s → (1 ≤ levels) × IsSoundAt (pred levels) false fuel s) → AreSound levels fuel 0 (edit (copy_to n o) cs)
copied_sound levels fuel n None cs high ok fits = remove_sound levels fuel 0 n cs ok
copied_sound levels fuel n (Some s) cs high ok fits = let h = fits s refl in put_sound levels fuel n s cs h.0 ok high h.1

-- a space whose height is tested fits two levels below
tested_fits : (levels fuel : ℕ) (o : Option Space) → first_refusal (height_refusal levels o ∷ []) ≡ None → ((s : Space) → o ≡ Some s → IsSoundAt (pred levels) false fuel s)
    → (s : Space) → o ≡ Some s → (1 ≤ pred levels) × IsSoundAt (pred (pred levels)) false fuel s
tested_fits levels fuel None passes found s is = cc
tested_fits levels fuel (Some r) passes found s is =
    let same : r ≡ s = cc in
    subst (λ x. (1 ≤ pred levels) × IsSoundAt (pred (pred levels)) false fuel x) same (go (nat_lt levels (2 + height r)) refl passes)
  where
    go : (b : Bool) → nat_lt levels (2 + height r) ≡ b → first_refusal ((if b then test_refusal 8 else None) ∷ []) ≡ None → (1 ≤ pred levels) × IsSoundAt (pred (pred levels)) false fuel r
    go true is e = cc
    go false is e =
        let within : 2 + height r ≤ levels = grind (arith, nat_tests) in
        (omega (arith, within), fits_sound (pred levels) (pred (pred levels)) false fuel r (found r refl) (omega (arith, within)))

-- a child's child fits as a child
grandchild_fits : (levels fuel n : ℕ) (o : Option Space) → ((c : Space) → o ≡ Some c → IsSoundAt (pred levels) false fuel c)
    → (s : Space) → find n (below o) ≡ Some s → (1 ≤ levels) × IsSoundAt (pred levels) false fuel s
grandchild_fits levels fuel n None found s is = cc
grandchild_fits zero fuel n (Some (space t cs)) found s is = let none = no_child fuel 0 n cs (found (space t cs) refl).1 in cc
grandchild_fits (suc levels) fuel n (Some (space t cs)) found s is =
    let ok = found_sound levels fuel n cs (found (space t cs) refl).1 s is in
    let within = height_within (pred levels) false fuel s ok in
    (omega arith, fits_sound (pred levels) levels false fuel s ok (omega (arith, within)))

-- a caller as a call changes it, and goes on
caller_sound : (fuel : ℕ) (root : Bool) (u v : Top) → IsAlike u v → IsSoundTop fuel root u → IsSoundTop fuel root (after_success v)
caller_sound fuel root u v a top = let after = alike_sound fuel root u v a top in record { sum = after.sum; devices = after.devices }

-- children that calls change to sound ones
abbrev IsSoundChange : ℕ → ℕ → Edit → Type 0
IsSoundChange levels fuel (change n t) = (1 ≤ levels) × IsChild n × IsSoundTop fuel false t
IsSoundChange levels fuel (place n s) = ⊥
IsSoundChange levels fuel (take_away n) = ⊥

abbrev AreSoundChanges : ℕ → ℕ → List Edit → Type 0
AreSoundChanges levels fuel [] = Unit {0}
AreSoundChanges levels fuel (e ∷ es) = IsSoundChange levels fuel e × AreSoundChanges levels fuel es

below_sound : (levels fuel : ℕ) (o : Option Space) → ((c : Space) → o ≡ Some c → IsSoundAt levels false fuel c) → AreSound levels fuel 0 (below o)
below_sound levels fuel None found = tt
below_sound levels fuel (Some (space t cs)) found = (found (space t cs) refl).1

changed_sound : (levels fuel : ℕ) (e : Edit) (cs : Children) → IsSoundChange levels fuel e → AreSound levels fuel 0 cs → AreSound levels fuel 0 (edit e cs)
changed_sound levels fuel (change n t) cs may ok = put_sound levels fuel n (space t (below (find n cs))) cs may.0 ok may.1 (may.2, below_sound (pred levels) fuel (find n cs) (found_sound levels fuel n cs ok))
changed_sound levels fuel (place n s) cs may ok = absurd may
changed_sound levels fuel (take_away n) cs may ok = absurd may

changes_sound : (levels fuel : ℕ) (es : List Edit) (cs : Children) → AreSoundChanges levels fuel es → AreSound levels fuel 0 cs → AreSound levels fuel 0 (edit_all es cs)
changes_sound levels fuel [] cs may ok = ok
changes_sound levels fuel (e ∷ es) cs may ok = changes_sound levels fuel es (edit e cs) may.1 (changed_sound levels fuel e cs may.0 ok)

-- threads whose tops are sound, and whose numbers fit
abbrev IsSoundThread : ℕ → ℕ → Thread → Type 0
IsSoundThread levels fuel c = (1 ≤ levels) × IsChild c.number × IsSoundTop fuel false c.top

abbrev AreSoundThreads : ℕ → ℕ → List Thread → Type 0
AreSoundThreads levels fuel [] = Unit {0}
AreSoundThreads levels fuel (c ∷ cs) = IsSoundThread levels fuel c × AreSoundThreads levels fuel cs

found_thread : (levels fuel n : ℕ) (cs : Children) (t : Top) (ds : Children) → AreSound levels fuel 0 cs → find n cs ≡ Some (space t ds) → IsSoundThread levels fuel (record { number = n; top = t })
found_thread zero fuel n cs t ds ok is = let none = no_child fuel 0 n cs ok in cc
found_thread (suc levels) fuel n cs t ds ok is = let found = find_sound levels fuel 0 n cs (space t ds) ok is in (omega arith, found.0, found.1.0)

threads_sound : (levels fuel first count : ℕ) (cs : Children) → AreSound levels fuel 0 cs → AreSoundThreads levels fuel (threads first (seen_of (in_row first count) cs))
threads_sound levels fuel first zero cs ok = tt
threads_sound levels fuel first (suc count) cs ok = go (find first cs) refl (threads_sound levels fuel (first + 1) count cs ok)
  where
    go : (o : Option Space) → find first cs ≡ o → AreSoundThreads levels fuel (threads (first + 1) (seen_of (in_row (first + 1) count) cs))
        → AreSoundThreads levels fuel (threads first (seen_of (in_row first (suc count)) cs))
    go None is rest = rw is rest
    go (Some (space t ds)) is rest = rw is (found_thread levels fuel first cs t ds ok is, rest)

-- the change of one thread, where there is one, before those of the others
first_changes : (levels fuel : ℕ) (b : Bool) (e : Edit) (es : List Edit) → IsSoundChange levels fuel e → AreSoundChanges levels fuel es → AreSoundChanges levels fuel ((if b then e ∷ [] else []) ++ es)
first_changes levels fuel true e es one others = (one, others)
first_changes levels fuel false e es one others = others

start_alike : (quantum : ℕ) (t c : Top) → IsAlike c (after_start quantum t c)
unfolding after_start
start_alike quantum t c = record { fuel = refl; used = refl; devices = refl }

starts_sound : (levels fuel quantum : ℕ) (t : Top) (cs : List Thread) → AreSoundThreads levels fuel cs → AreSoundChanges levels fuel (starts quantum t cs)
starts_sound levels fuel quantum t [] ok = tt
starts_sound levels fuel quantum t (c ∷ cs) ok =
    let top = alike_sound fuel false c.top (after_start quantum t c.top) (start_alike quantum t c.top) ok.0.2 in
    first_changes levels fuel (waits c.top.status) (change c.number (after_start quantum t c.top)) (starts quantum t cs) (ok.0.0, ok.0.1, top) (starts_sound levels fuel quantum t cs ok.1)

renewal_sound : (levels fuel : ℕ) (c : Thread) (o : Option Memory) (es : List Edit) → IsSoundThread levels fuel c → AreSoundChanges levels fuel es → AreSoundChanges levels fuel (renewal c o ++ es)
renewal_sound levels fuel c None es one others = others
renewal_sound levels fuel c (Some snapshot) es one others =
    let same : IsAlike c.top (snapshot_part c.top) = record { fuel = refl; used = refl; devices = refl } in
    ((one.0, one.1, alike_sound fuel false c.top (snapshot_part c.top) same one.2), others)

renewals_sound : (levels fuel : ℕ) (cs : List Thread) → AreSoundThreads levels fuel cs → AreSoundChanges levels fuel (renewals cs)
renewals_sound levels fuel [] ok = tt
renewals_sound levels fuel (c ∷ cs) ok = renewal_sound levels fuel c c.top.snapshot (renewals cs) ok.0 (renewals_sound levels fuel cs ok.1)

-- a call on a file meets no children
file_meets_none : (call : FileCall) → meets_children (kind_in (File call)) ≡ false
file_meets_none (New name n append) = refl
file_meets_none call = refl

-- what a call of a sound caller does that no test stops
action_sound : (levels : ℕ) (root : Bool) (fuel : ℕ) (k : Call) (u : Top) (cs : Children) → MayMeet levels k → IsSoundTop fuel root u → AreSound levels fuel 0 cs
    → first_refusal (refusals levels k u (seen_of (awaits k) cs)) ≡ None → IsSoundAt levels root fuel (apply_meeting (action k u (seen_of (awaits k) cs)) cs)
action_sound levels root fuel (Put x) u cs may top ok passes = (
  record { sum = top.sum; devices = top.devices },
  put_sound levels fuel x.child _ cs may.below ok may.children.0 (child_sound (pred levels) fuel (child_after x u) u root (find x.child cs) top (child_alike x u) (found_sound levels fuel x.child cs ok)),
)
action_sound levels root fuel (PutTree n from to) u cs may top ok passes =
    let two : 2 ≤ levels = may.below in
    let one : 1 ≤ levels = omega (arith, two) in
    let here = child_sound (pred levels) fuel (λ c. c) u root (find n cs) top (λ c. record { fuel = refl; used = refl; devices = refl }) (found_sound levels fuel n cs ok) in
    let copied = copied_sound (pred levels) fuel to (find from cs) (below (find n cs)) may.children.1.1.0 here.1 (tested_fits levels fuel (find from cs) passes (found_sound levels fuel from cs ok)) in
    (record { sum = top.sum; devices = top.devices }, put_sound levels fuel n _ cs one ok may.children.0 (here.0, copied))
action_sound levels root fuel (Get x) u cs may top ok passes =
    let c = or_fresh u (option_map top_of (find x.child cs)) in
    (caller_sound fuel root u (caller_after x c u) (caller_alike x c u) top, ok)
action_sound levels root fuel (GetTree n from to) u cs may top ok passes =
    (record { sum = top.sum; devices = top.devices }, copied_sound levels fuel to (find from (below (find n cs))) cs may.children.1.1.0 ok (grandchild_fits levels fuel from (find n cs) (found_sound levels fuel n cs ok)))
action_sound levels root fuel (Fork n) u cs may top ok passes = (
  record { sum = top.sum; devices = top.devices },
  put_sound levels fuel n _ cs may.below ok may.children.0 (child_sound (pred levels) fuel (after_fork u) u root (find n cs) top (fork_alike u) (found_sound levels fuel n cs ok)),
)
action_sound levels root fuel (Wait n) u cs may top ok passes =
    let c = or_fresh u (option_map top_of (find n cs)) in
    (caller_sound fuel root u (after_wait c u) (wait_alike c u) top, remove_sound levels fuel 0 n cs ok)
action_sound levels root fuel (Tfork n) u cs may top ok passes = (
  record { sum = top.sum; devices = top.devices },
  put_sound levels fuel n _ cs may.below ok may.children.0 (child_sound (pred levels) fuel (after_thread_fork u) u root (find n cs) top (thread_fork_alike u) (found_sound levels fuel n cs ok)),
)
action_sound levels root fuel (Tjoin n) u cs may top ok passes =
    let c = or_fresh u (option_map top_of (find n cs)) in
    (caller_sound fuel root u (after_join c u) (join_alike c u) top, ok)
action_sound levels root fuel (Qstart first count quantum) u cs may top ok passes =
    let found = threads first (seen_of (in_row first count) cs) in
    (record { sum = top.sum; devices = top.devices }, changes_sound levels fuel (starts quantum u found) cs (starts_sound levels fuel quantum u found (threads_sound levels fuel first count cs ok)) ok)
action_sound levels root fuel (Qcommit first count) u cs may top ok passes =
    let found = threads first (seen_of (in_row first count) cs) in
    (record { sum = top.sum; devices = top.devices }, changes_sound levels fuel (renewals found) cs (renewals_sound levels fuel found (threads_sound levels fuel first count cs ok)) ok)
action_sound levels root fuel (File call) u cs may top ok passes = let none = file_meets_none call in let some = may.meets in cc
action_sound levels root fuel k u cs may top ok passes = let some = may.meets in cc

-- a caller that stops is as sound as it was
unless_sound : (levels : ℕ) (root : Bool) (fuel : ℕ) (o : Option Refusal) (u : Top) (m : Meeting) (cs : Children) → IsSoundTop fuel root u → AreSound levels fuel 0 cs
    → (o ≡ None → IsSoundAt levels root fuel (apply_meeting m cs)) → IsSoundAt levels root fuel (apply_meeting (unless_refused o u m) cs)
unless_sound levels root fuel None u m cs top ok acts = acts refl
unless_sound levels root fuel (Some r) u m cs top ok acts = (record { sum = top.sum; devices = top.devices }, ok)

-- a call of a sound caller that pays for it
pub meet_sound : (levels : ℕ) (root : Bool) (fuel : ℕ) (k : Call) (t : Top) (cs : Children) → MayMeet levels k → 0 < t.fuel → IsSoundAt levels root fuel (space t cs) → IsSoundAt levels root fuel (meet levels k (after_payment t t) cs)
meet_sound levels root fuel k t cs may some ok =
    let top = paid_sound fuel root t t some ok.0 ok.0 in
    let seen = seen_of (awaits k) cs in
    unless_sound levels root fuel (first_refusal (refusals levels k (after_payment t t) seen)) (after_payment t t) (action k (after_payment t t) seen) cs top ok.1 (action_sound levels root fuel k (after_payment t t) cs may top ok.1)

-- the same of a space as a call of code has it
pub meeting_sound : (levels : ℕ) (root : Bool) (fuel : ℕ) (k : Call) (s : Space) → MayMeet levels k → MayPay (top_of s) → IsSoundAt levels root fuel s → IsSoundAt levels root fuel (meet levels k (after_payment (top_of s) (top_of s)) (children_of s))
meeting_sound levels root fuel k (space t cs) may pays ok = meet_sound levels root fuel k t cs may pays.fuel ok
