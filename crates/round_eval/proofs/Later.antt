-- Trees later in the same run, one after the other.
use Rattle.std.proofs.Common.{◌≡◌, ℕ, ◌+◌, ◌≤◌, ◌<◌, Bool, true, false, ◌||◌, refl, sym, ◌∙◌, ap, subst, arith, true≢false}
use Rattle.space_model.specs.Space.{Space}
use Rattle.space_model.specs.Sound.{IsSound}
use Rattle.run_model.specs.Demand.{settle_tree}
use Rattle.run_model.proofs.Sound.{replay_whole}
use Rattle.det_laws.specs.Leads.{Reaches}
use Rattle.det_laws.specs.Tree.{after_all, events_left}
use Rattle.det_laws.proofs.Leading.{stays, goes_on}
use Rattle.det_laws.proofs.Local.{leads_may}
use Rattle.det_laws.proofs.Reaching.{replay_settles}
use Rattle.det_laws.proofs.Ending.{counted, all_happen}
use Rattle.run_model.specs.Schedule.{step, call_at, where_some, try_meet}
use Rattle.run_model.proofs.Calls.{call_enabled}
use Rattle.call_model.specs.declared.Call.{Call}
use Rattle.std.specs.Prelude.{List, [], ◌∷◌, Option, Some, None, IfSome, nat_lt}
use Rattle.std.proofs.lemmas.Bool.Decides.{nat_tests}
use Rattle.space_step.specs.declared.event.Advance.{Advance}
use Rattle.round_eval.specs.Later.{IsLater}

pub nothing : (s : Space) → IsLater false s s
nothing s = record { events = 0; reached = stays 8 s; some = λ e. absurd (true≢false (sym e)) }

pub nothing_new : (s t : Space) → t ≡ s → IsLater false s t
nothing_new s t same = subst (IsLater false s) (sym same) (nothing s)

-- the events of both
sum_of : (a b : Bool) (m n : ℕ) → (a ≡ true → 1 ≤ m) → (b ≡ true → 1 ≤ n) → (a || b) ≡ true → 1 ≤ m + n
sum_of true b m n f g e = let h = f refl in omega (arith, h)
sum_of false true m n f g e = let h = g refl in omega (arith, h)
sum_of false false m n f g e = absurd (true≢false (sym e))

pub then_more : (a b : Bool) (s t u : Space) → IsLater a s t → IsLater b t u → IsLater (a || b) s u
then_more a b s t u first second = record {
  events = first.events + second.events;
  reached = goes_on 8 s t u first.events second.events first.reached second.reached;
  some = sum_of a b first.events second.events first.some second.some;
}

-- a tree that so many events lead to
pub went : (s t : Space) (n : ℕ) (b : Bool) → Reaches 8 s n t → (b ≡ true → 1 ≤ n) → IsLater b s t
went s t n b reached some = record { events = n; reached = reached; some = some }

-- and where a space went on in its place
pub went_some : (s t : Space) (o : Option Advance) (a : Advance) → o ≡ Some a → IfSome o (λ x. Reaches 8 s x.ran t) → IsLater (nat_lt 0 a.ran) s t
went_some s t o a is reached =
    let there : Reaches 8 s a.ran t = subst (λ (x : Option Advance). IfSome x (λ y. Reaches 8 s y.ran t)) is reached in
    went s t a.ran (nat_lt 0 a.ran) there (λ some. grind (arith, nat_tests))

-- where the first had an event, or only the second may have had one
pub then_either : (a b : Bool) (s t u : Space) → a ≡ true → IsLater a s t → IsLater b t u → IsLater a s u
then_either a b s t u is first second =
    subst (λ x. IsLater x s u) (ap (λ x. x || b) is ∙ sym is) (then_more a b s t u first second)

pub then_second : (a b : Bool) (s t u : Space) → a ≡ false → IsLater a s t → IsLater b t u → IsLater b s u
then_second a b s t u is first second = subst (λ x. IsLater x s u) (ap (λ x. x || b) is) (then_more a b s t u first second)

-- a call that has met its children is one event
pub one_met : (p : List ℕ) (call : Call) (s t : Space) → Some call ≡ call_at p 8 s → t ≡ try_meet p 8 s → IsLater true s t
one_met p call s t found met =
    let may = call_enabled p 8 s call (sym found) in
    let done : t ≡ step p 8 s = met ∙ ap (λ o. where_some o (step p 8 s) s) (sym found) in
    record { events = 1; reached = (p ∷ [], refl, (may, sym done)); some = λ e. omega arith }

-- and where none is met, nothing has changed
pub none_met : (p : List ℕ) (s t : Space) → None ≡ call_at p 8 s → t ≡ try_meet p 8 s → IsLater false s t
none_met p s t found met = nothing_new s t (met ∙ ap (λ o. where_some o (step p 8 s) s) (sym found))

-- it is sound, it settles to the same tree, and where there were some events there are fewer left
pub later_sound : (b : Bool) (s t : Space) → IsLater b s t → IsSound s → IsSound t
later_sound b s t later sound =
    let ps = later.reached.0 in
    subst IsSound (leads_may ps s t later.reached.2).1 (replay_whole ps s sound)

pub later_settles : (b : Bool) (s t : Space) → IsLater b s t → IsSound s → settle_tree t ≡ settle_tree s
later_settles b s t later sound =
    let ps = later.reached.0 in
    ap settle_tree (sym (leads_may ps s t later.reached.2).1) ∙ replay_settles ps 8 true sound.0 s sound.1.2

pub later_fewer : (s t : Space) → IsLater true s t → IsSound s → events_left t < events_left s
later_fewer s t later sound =
    let ps = later.reached.0 in
    let leads = leads_may ps s t later.reached.2 in
    let all = counted ps sound.0 s sound.1.2 in
    let many = all_happen ps s leads.0 in
    let as_long = later.reached.1 in
    let last : events_left (after_all ps s) ≡ events_left t = ap events_left leads.1 in
    let some = later.some refl in
    omega (arith, all, many, as_long, last, some)

-- that there was an event need not be said
pub some_later : (b : Bool) (s t : Space) → IsLater b s t → IsLater false s t
some_later b s t later = record { events = later.events; reached = later.reached; some = λ e. absurd (true≢false (sym e)) }

pub later_then : (a b : Bool) (s t u : Space) → IsLater a s t → IsLater b t u → IsLater false s u
later_then a b s t u first then = then_more false false s t u (some_later a s t first) (some_later b t u then)
