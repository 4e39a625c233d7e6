-- How many own events a child has before an event of the space above it, and what is kept of them.
use Rattle.std.proofs.Common.{◌≡◌, ℕ, ◌-◌, ◌≤◌, true, List, ◌++◌, length, length-append, sym, ap, ap₂, ◌∙◌, subst, arith, inl, inr}
use Rattle.space_model.specs.declared.Reach.TheVariants.{Whole}
use Rattle.space_model.specs.Space.{Space}
use Rattle.space_model.specs.Sound.{IsSound, IsSoundAt}
use Rattle.run_model.specs.Demand.{settle}
use Rattle.run_model.specs.Replay.{replay}
use Rattle.run_model.specs.Schedule.{is_enabled}
use Rattle.run_model.proofs.Settled.{settle-settled}
use Rattle.run_model.proofs.Sound.{replay_sound}
use Rattle.det_laws.specs.Tree.{NoneMayHappen, after_all}
use Rattle.det_laws.proofs.Commutes.{settled_rests}
use Rattle.det_laws.proofs.Reaching.{meaning_reached}
use Rattle.event_laws.specs.OwnEvents.{own_events}
use Rattle.event_laws.proofs.Histories.{all_alike}
use Rattle.explain_core.specs.declared.beside.BothAsked.{BothAsked}
use Rattle.explain_core.specs.declared.beside.Sides.{Sides}
use Rattle.explain_core.specs.declared.watching.Watched.{Watched}
use Rattle.explain_core.specs.Beside.{ComeBoth, EndsAbove, IsAll, IsAskedFor, IsAtFirst, OneEnds, all, child_of}
use Rattle.explain_core.specs.Going.{HasCome, SoFar}
use Rattle.explain_core.specs.Reached.{HasAtLeast, HasBefore, NeverHappens, TellsMoment}
use Rattle.explain_core.specs.Watch.{kept_of, nothing_kept}
use Rattle.explain_core.proofs.BothSides.{all_left, side_out}
use Rattle.explain_core.proofs.Coming.{never}
use Rattle.explain_core.proofs.LastChange.{moment_so_far}
use Rattle.explain_core.proofs.Schedules.{leads_replay, own_parts, replay_parts, whole}

-- ---- the rest of two schedules

-- a tree comes to an end by some schedule
pub ended : (s : Space) → IsSound s → (full : List (List ℕ)) × NoneMayHappen (after_all full s)
ended s sound =
    let rest = meaning_reached 8 Whole true sound.0 s sound.1.2 in
    let end : after_all rest.0 s ≡ settle 8 s = leads_replay rest.0 8 s (settle 8 s) rest.2 in
    (rest.0, λ q may. settled_rests q 8 (settle 8 s) (settle-settled 8 true sound.0 s sound.1.2) (ap (λ x. is_enabled q 8 x) (sym end) ∙ may))

-- a schedule keeps it sound
pub still_sound : (start now : Space) (ps : List (List ℕ)) → IsSound start → after_all ps start ≡ now → IsSound now
still_sound start now ps sound leads = (sound.0, (sound.1.0, sound.1.1, subst (IsSoundAt 8 true sound.0) leads (replay_sound ps 8 true sound.0 start sound.1.2)))

-- one schedule, and another that goes on to an end
ended_then : (start now : Space) (ps rest : List (List ℕ)) → after_all ps start ≡ now → NoneMayHappen (after_all rest now) → NoneMayHappen (after_all (ps ++ rest) start)
ended_then start now ps rest leads none q may = none q (ap (λ x. is_enabled q 8 x) (sym (replay_parts ps rest 8 start ∙ ap (replay rest 8) leads)) ∙ may)

pub own_both : (q : List ℕ) (ps rest : List (List ℕ)) (start now : Space) → after_all ps start ≡ now → own_events q (ps ++ rest) start ≡ own_events q ps start ++ own_events q rest now
own_both q ps rest start now leads =
    sym (whole q (ps ++ rest) start) ∙ own_parts 8 q ps rest start ∙ ap₂ (λ xs ys. xs ++ ys) (whole q ps start) (whole q rest (replay ps 8 start) ∙ ap (own_events q rest) leads)

-- two schedules that lead to the same tree have as many own events of a path: both go on to an end by the same rest
as_many : (start now : Space) (q : List ℕ) (ps rs : List (List ℕ)) → IsSound start → after_all ps start ≡ now → after_all rs start ≡ now → length (own_events q ps start) ≡ length (own_events q rs start)
as_many start now q ps rs sound one other =
    let end = ended now (still_sound start now ps sound one) in
    let alike = all_alike (ps ++ end.0) (rs ++ end.0) q start (ended_then start now ps end.0 one end.1) (ended_then start now rs end.0 other end.1) in
    let same = ap length (sym (own_both q ps end.0 start now one) ∙ alike ∙ own_both q rs end.0 start now other) in
    let first = length-append (own_events q ps start) (own_events q end.0 now) in
    let second = length-append (own_events q rs start) (own_events q end.0 now) in
    omega (arith, same, first, second)

-- ---- what is asked for

pub before_left : (a : BothAsked) (q : List ℕ) (number : ℕ) (w : Watched) (s : Sides) → 1 ≤ number → IsAll q w a.below → a.above.to ≡ number → IsAtFirst s.below → s.above.left ≡ number → IsAskedFor a s
before_left a q number w s some is to first left = record { below = all_left a.below q w s.below is first; above = record { some = omega (arith, some, left); within = omega (arith, left, to) } }

-- ---- none is told

-- some of the space's own events are left where it has stopped: it has none of that number
pub never_above : (start now : Space) (p : List ℕ) (child number : ℕ) (a : BothAsked) (old new : Sides) → IsSound start → 1 ≤ number → old.above.left ≡ number → ComeBoth 8 p child a old new start now → NeverHappens start p (number - 1)
never_above start now p child number a old new sound some left come =
    never start now p a.above number new.above.left (kept_of old.above.kept) (kept_of new.above.kept) sound some come.left.above.some
    (subst (λ n. HasCome 8 p a.above n new.above.left (kept_of old.above.kept) (kept_of new.above.kept) start now) left come.above)

-- none of the child's are left
pub child_out : (start now : Space) (p q : List ℕ) (child : ℕ) (a : BothAsked) (w : Watched) (old new : Sides) → q ≡ child_of p child → IsSound start → IsAll q w a.below → IsAtFirst old.below → OneEnds 8 p child a old new start now → new.below.left ≡ 0
    → HasAtLeast start q all
child_out start now p q child a w old new named sound is first (inl ends) none = subst (λ r. HasAtLeast start r all) (sym named) (side_out start now (child_of p child) q a.below w old.below new.below is sound first none ends.below)
child_out start now p q child a w old new named sound is first (inr ends) none = let some = ends.left.some in absurd (omega (arith, some, none))

-- ---- the event has just happened

pub has_ended : (start now : Space) (p : List ℕ) (child : ℕ) (a : BothAsked) (old new : Sides) → OneEnds 8 p child a old new start now → (new.below.left ≡ 0 → ⊥) → EndsAbove 8 p child a old new start now
has_ended start now p child a old new (inl ends) some = absurd (some ends.none)
has_ended start now p child a old new (inr ends) some = ends

-- so many own events of the child come before it
pub has_before : (start now : Space) (p q : List ℕ) (number child : ℕ) (a : BothAsked) (old new : Sides) → q ≡ child_of p child → IsSound start → IsAtFirst old.below → old.above.left ≡ number → EndsAbove 8 p child a old new start now
    → HasBefore start p number q (all - new.below.left)
has_before start now p q number child a old new named sound first left ends =
    let above = ends.above in
    let below = ends.below in
    let one = above.goes in
    let other = below.goes in
    let count = above.count in
    let none = ends.none in
    let events = ap length (sym (whole p one.schedule start) ∙ one.events) in
    let so_far = below.count in
    let at_first = first.left in
    let mine = ap length (sym (whole (child_of p child) other.schedule start) ∙ other.events) in
    let same = as_many start now (child_of p child) one.schedule other.schedule sound one.leads other.leads in
    subst (λ r. HasBefore start p number r (all - new.below.left)) (sym named)
    (record { schedule = one.schedule; events = omega (arith, events, count, none, left); before = omega (arith, same, mine, so_far, at_first) })

-- and what is kept of them
pub told_before : (start now : Space) (p q : List ℕ) (child : ℕ) (a : BothAsked) (w : Watched) (old new : Sides) → q ≡ child_of p child → IsAll q w a.below → IsAtFirst old.below → EndsAbove 8 p child a old new start now
    → TellsMoment start q (all - new.below.left) w new.below.kept.last
told_before start now p q child a w old new named is first ends =
    let r = child_of p child in
    let from = is.from in
    let far : SoFar 8 r a.below a.below.to new.below.left nothing_kept (kept_of new.below.kept) start now =
    subst (λ n. SoFar 8 r a.below n new.below.left nothing_kept (kept_of new.below.kept) start now) (first.left ∙ sym is.to)
    (subst (λ k. SoFar 8 r a.below old.below.left new.below.left k (kept_of new.below.kept) start now) first.kept ends.below) in
    let told = moment_so_far start now r a.below w new.below.left new.below.kept is.noticing (omega (arith, from)) far in
    subst (λ x. TellsMoment start x (all - new.below.left) w new.below.kept.last) (sym named) (subst (λ n. TellsMoment start r (n - new.below.left) w new.below.kept.last) is.to told)
