-- What happens to the space at a path, event by event, in a schedule of a whole tree: its own events alone, counted from 0.
-- Our choice: what is told of an event: the top before it, what its call sees of the children that it awaits, and the top after it.
use Rattle.std.specs.Prelude.{◌≡◌, ℕ, pred, ◌==◌, ◌&&◌, Bool, true, false, List, [], ◌∷◌, ◌++◌, length, Option, Some, None, option_and_then, if◌then◌else◌}
use Rattle.std.specs.List.{slice_get}
use Rattle.call_model.specs.Limits.{greatest_depth}
use Rattle.space_model.specs.Space.{Space, Top, Children, top_of, children_of, find}
use Rattle.space_model.specs.Call.{Seen, seen_of}
use Rattle.space_model.specs.Meeting.{awaits}
use Rattle.space_model.specs.Event.{NextEvent, rests, moves, meets, next}
use Rattle.run_model.specs.Schedule.{may_happen, event, try_step}
use Rattle.det_laws.specs.Tops.{top_at}
use Rattle.det_laws.specs.Tree.{MayHappen, after, after_all}

-- one event of a space
pub record OwnEvent : Type 0 where
  pub before : Top
  pub sees : List Seen
  pub after : Top

-- what an event sees of the children that it awaits; one of the space alone sees nothing
abbrev pub seen_by : NextEvent → Children → List Seen
seen_by rests cs = []
seen_by (moves t) cs = []
seen_by (meets k t) cs = seen_of (awaits k) cs

-- the event that is next of a space with so many levels of children left below it, where it may happen
abbrev pub own_event : ℕ → NextEvent → Space → Option OwnEvent
own_event levels e s = if may_happen e (children_of s) then Some (record { before = top_of s; sees = seen_by e (children_of s); after = top_of (event levels e s) }) else None

-- the same at a path
abbrev pub own_event_at : List ℕ → ℕ → Space → Option OwnEvent
own_event_at [] levels s = own_event levels (next levels (top_of s)) s
own_event_at (n ∷ p) levels s = option_and_then (own_event_at p (pred levels)) (find n (children_of s))

abbrev pub is_same_path : List ℕ → List ℕ → Bool
is_same_path [] [] = true
is_same_path [] (m ∷ q) = false
is_same_path (n ∷ p) [] = false
is_same_path (n ∷ p) (m ∷ q) = (n == m) && is_same_path p q

-- an event, where there is one, and then others
abbrev pub and_others : Option OwnEvent → List OwnEvent → List OwnEvent
and_others None later = later
and_others (Some e) later = e ∷ later

-- the own events of the space at a path in a schedule, in their order; an entry at which no event may happen in its turn is none
abbrev pub own_events : List ℕ → List (List ℕ) → Space → List OwnEvent
own_events p [] s = []
own_events p (q ∷ qs) s = and_others (if is_same_path p q then own_event_at p greatest_depth s else None) (own_events p qs (try_step q greatest_depth s))

-- in a schedule the own event of this number at a path is e
abbrev pub IsOwnEvent : List (List ℕ) → Space → List ℕ → ℕ → OwnEvent → Type 0
IsOwnEvent ps s p k e = slice_get (own_events p ps s) k ≡ Some e

-- a schedule has an entry that is a path: there the event may happen, with so many own events of that path before it, the top is that before
-- the event, and becomes that after it
pub record IsEntry (ps : List (List ℕ)) (s : Space) (p : List ℕ) (k : ℕ) (e : OwnEvent) : Type 0 where
  pub earlier : List (List ℕ)
  pub later : List (List ℕ)
  pub entry : ps ≡ earlier ++ p ∷ later
  pub number : length (own_events p earlier s) ≡ k
  pub may : MayHappen p (after_all earlier s)
  pub before : top_at p (after_all earlier s) ≡ Some e.before
  pub after : top_at p (after p (after_all earlier s)) ≡ Some e.after
