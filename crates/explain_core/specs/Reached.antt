-- What is shown of an event, which is named by the path of its space and by its number among the own events there.
-- Our choice: that a space is shown just behind the event that is asked for.
use Rattle.std.specs.Prelude.{◌≡◌, ℕ, suc, ◌+◌, ◌-◌, ◌<◌, ◌≤◌, ◌^◌, List, length, Option, Some, None, min, take}
use Rattle.space_model.specs.Space.{Space}
use Rattle.space_model.specs.Path.{at}
use Rattle.det_laws.specs.Tops.{top_at}
use Rattle.det_laws.specs.Tree.{NoneMayHappen, after_all}
use Rattle.event_laws.specs.OwnEvents.{OwnEvent, IsOwnEvent, own_events}
use Rattle.explain_core.specs.declared.bytes.Bytes.{Bytes}
use Rattle.explain_core.specs.Text.{end_text, event_text}
use Rattle.explain_core.specs.Trace.{trace_lines}
use Rattle.explain_core.specs.Watch.{IsLastChange, NoneChanges, Noted, moment_at, note}
use Rattle.explain_core.specs.declared.watching.Moment.{Moment}
use Rattle.explain_core.specs.declared.watching.Watched.{Watched}

-- a schedule that has this own event leads from `start` to `now`, where the top at the path is that behind the event
pub record HasJustHappened (start : Space) (p : List ℕ) (k : ℕ) (now : Space) : Type 0 where
  pub schedule : List (List ℕ)
  pub leads : after_all schedule start ≡ now
  pub event : OwnEvent
  pub happens : IsOwnEvent schedule start p k event
  pub top : top_at p now ≡ Some event.after
  -- and no later one of the path
  pub count : length (own_events p schedule start) ≡ suc k

-- no schedule has this own event
abbrev pub NeverHappens : Space → List ℕ → ℕ → Type 0
NeverHappens start p k = (ps : List (List ℕ)) (e : OwnEvent) → IsOwnEvent ps start p k e → ⊥

-- a text shows the space at a path of a tree at its end
abbrev pub ShowsSpace : Option Bytes → List ℕ → Space → List ℕ → Type 0
ShowsSpace w p s text = (c : Space) × (at p s ≡ Some c) × (text ≡ end_text w p c)

-- a schedule has an own event, and a text shows the top behind it, in this schedule and in every other that has the event
pub record ShowsEvent (w : Option Bytes) (start : Space) (p : List ℕ) (k : ℕ) (text : List ℕ) : Type 0 where
  pub schedule : List (List ℕ)
  pub event : OwnEvent
  pub happens : IsOwnEvent schedule start p k event
  pub shown : (ps : List (List ℕ)) (e : OwnEvent) → IsOwnEvent ps start p k e → text ≡ event_text w p (k + 1) e.after

-- a text has a line for each own event from one number to another, of every schedule that has ended
abbrev pub IsTrace : Space → List ℕ → ℕ → ℕ → List ℕ → Type 0
IsTrace start p from to text = (ps : List (List ℕ)) → NoneMayHappen (after_all ps start) → text ≡ trace_lines p from 0 (take to (own_events p ps start))

-- what is told of the last own event that changed what is watched, among the first so many of every schedule that has ended
abbrev pub TellsLastChange : Space → List ℕ → ℕ → Watched → Noted → Type 0
TellsLastChange start p to w c = (ps : List (List ℕ)) → NoneMayHappen (after_all ps start) → (k : ℕ) × (e : OwnEvent) × IsLastChange w (take to (own_events p ps start)) k e × (c ≡ note p w (suc k) e)

-- none of the first so many own events of a schedule that has ended changes what is watched
abbrev pub NeverChanges : Space → List ℕ → ℕ → Watched → Type 0
NeverChanges start p to w = (ps : List (List ℕ)) → NoneMayHappen (after_all ps start) → NoneChanges w (take to (own_events p ps start))

-- what is kept of the last own event that changed what is watched, or that none did
abbrev pub TellsMoment : Space → List ℕ → ℕ → Watched → Option Moment → Type 0
TellsMoment start p to w None = NeverChanges start p to w
TellsMoment start p to w (Some m) = (ps : List (List ℕ)) → NoneMayHappen (after_all ps start) → (k : ℕ) × (e : OwnEvent) × IsLastChange w (take to (own_events p ps start)) k e × (m ≡ moment_at w (suc k) e)

-- what is told of it
abbrev pub TellsLast : Space → List ℕ → ℕ → Watched → Option Noted → Type 0
TellsLast start p to w None = NeverChanges start p to w
TellsLast start p to w (Some c) = TellsLastChange start p to w c

-- the same of what is watched, where anything is; else nothing is told
abbrev pub TellsLastOf : Space → List ℕ → ℕ → Option Watched → Option Noted → Type 0
TellsLastOf start p to None o = o ≡ None
TellsLastOf start p to (Some w) o = TellsLast start p to w o

-- every schedule that has ended has fewer own events of a path than so many
abbrev pub HasFewerThan : Space → List ℕ → ℕ → Type 0
HasFewerThan start p n = (ps : List (List ℕ)) → NoneMayHappen (after_all ps start) → length (own_events p ps start) < n

-- or at least so many
abbrev pub HasAtLeast : Space → List ℕ → ℕ → Type 0
HasAtLeast start p n = (ps : List (List ℕ)) → NoneMayHappen (after_all ps start) → n ≤ length (own_events p ps start)

-- a schedule whose own events at p are so many has so many at q
pub record HasBefore (start : Space) (p : List ℕ) (number : ℕ) (q : List ℕ) (count : ℕ) : Type 0 where
  pub schedule : List (List ℕ)
  pub events : length (own_events p schedule start) ≡ number
  pub before : length (own_events q schedule start) ≡ count

-- every schedule that has ended has so many own events of a path, or all that a number of 64 bits can count
abbrev pub HasSoMany : Space → List ℕ → ℕ → Type 0
HasSoMany start p n = (ps : List (List ℕ)) → NoneMayHappen (after_all ps start) → n ≡ min (2 ^ 64 - 1) (length (own_events p ps start))
