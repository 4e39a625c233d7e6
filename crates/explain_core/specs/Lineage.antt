-- Where what is watched of a space comes from, through joins all the way down: the last own event that changed it, and, where that joined a child, the same
-- of the child as it was just behind the join.
-- Our choice: a list of links, the space's own first, each next one of the child that the one before joined; none of a space without own events.
use Rattle.std.specs.Prelude.{◌≡◌, ℕ, suc, ◌+◌, List, [], ◌∷◌, ◌++◌, length, Option, Some, None, option_map}
use Rattle.space_model.specs.Space.{Space}
use Rattle.event_laws.specs.OwnEvents.{OwnEvent, own_events}
use Rattle.explain_core.specs.declared.lineage.Link.{Link}
use Rattle.explain_core.specs.declared.lineages.LineageLink.{LineageLink}
use Rattle.explain_core.specs.declared.watching.Moment.{Moment}
use Rattle.explain_core.specs.declared.watching.Watched.{Watched}
use Rattle.explain_core.specs.Joins.{joined_path}
use Rattle.explain_core.specs.Reached.{HasBefore, NeverChanges, TellsLast, TellsMoment}
use Rattle.explain_core.specs.Watch.{IsLastChange, NoneChanges, Noted, moment_at, noted_of, told}

-- what is told of a space: how many own events it has had, and the last of them that changed what is watched
pub record NotedLink : Type 0 where
  pub count : ℕ
  pub change : Option Noted

abbrev pub noted_link : LineageLink → NotedLink
noted_link l = record { count = l.count; change = option_map noted_of l.change }

-- the path of the child that an event joined, if it did
abbrev pub child_joined : List ℕ → Watched → Option Noted → Option (List ℕ)
child_joined p w None = None
child_joined p w (Some c) = joined_path p w c

-- the number of an event
abbrev pub number_told : Option Noted → ℕ
number_told None = 0
number_told (Some c) = c.number

-- how many own events the first link tells of
abbrev pub events_told : List NotedLink → ℕ
events_told [] = 0
events_told (l ∷ ls) = l.count

-- links tell of the first so many own events of a path, in every schedule that has ended, the last that changed what is watched, or that none did; and where that joined
-- a child, the links behind the first tell the same of as many of the child's own events as come before the join
abbrev pub TellsLineage : Space → Watched → List ℕ → ℕ → List NotedLink → Type 0
TellsLineage root w p to [] = NeverChanges root p to w
TellsLineage root w p to (l ∷ ls) =
    TellsLast root p to w l.change
    × ((q : List ℕ) → child_joined p w l.change ≡ Some q → HasBefore root p (number_told l.change) q (events_told ls) × TellsLineage root w q (events_told ls) ls)

-- ---- in the words of what is kept

-- the last of some own events, before which there are none, that changed what is watched
abbrev pub HasLast : Watched → List OwnEvent → Option Moment → Type 0
HasLast w es None = NoneChanges w es
HasLast w es (Some m) = (k : ℕ) × (e : OwnEvent) × IsLastChange w es k e × (m ≡ moment_at w (suc k) e)

-- the path of the child that it joined
abbrev pub joined_by : List ℕ → Watched → Option Moment → Option (List ℕ)
joined_by p w None = None
joined_by p w (Some m) = joined_path p w (told p m)

-- its number
abbrev pub number_of : Option Moment → ℕ
number_of None = 0
number_of (Some m) = m.number

-- so holds where the own event of a number at a path has just happened: of a first part of a schedule, in which so many have
pub record HeldBehind (root : Space) (p : List ℕ) (ps : List (List ℕ)) (number : ℕ) (tells : List (List ℕ) → Type 0) : Type 0 where
  pub earlier : List (List ℕ)
  pub later : List (List ℕ)
  pub parts : ps ≡ earlier ++ later
  pub events : length (own_events p earlier root) ≡ number
  pub below : tells earlier

-- a link tells of a path in a schedule; and of the child that the last event joined something holds, just behind that event
pub record TellsLink (root : Space) (w : Watched) (p : List ℕ) (ps : List (List ℕ)) (l : Link) (tells : List ℕ → List (List ℕ) → Type 0) : Type 0 where
  pub count : length (own_events p ps root) ≡ l.count
  pub last : HasLast w (own_events p ps root) l.last
  pub joined : (q : List ℕ) → joined_by p w l.last ≡ Some q → HeldBehind root p ps (number_of l.last) (tells q)

-- links tell of a path in a schedule, and of the children below it that it was joined through
abbrev pub Tells : Space → Watched → List ℕ → List (List ℕ) → List Link → Type 0
Tells root w p ps [] = own_events p ps root ≡ []
Tells root w p ps (l ∷ ls) = TellsLink root w p ps l (λ q qs. Tells root w q qs ls)

-- how many own events there are
abbrev pub count_of : List Link → ℕ
count_of [] = 0
count_of (l ∷ ls) = l.count

-- behind so many more, of which none changed what is watched
abbrev pub counted : ℕ → List Link → List Link
counted n [] = record { count = n; last = None } ∷ []
counted n (l ∷ ls) = record { count = l.count + n; last = l.last } ∷ ls

-- behind so many more, of which this was the last that changed it, and the child that it joined has a lineage
abbrev pub changed_by : ℕ → Moment → List Link → List Link → List Link
changed_by n m ls below = record { count = count_of ls + n; last = Some m } ∷ below

-- something at the path of a child, where there is one
abbrev pub at_child : {X : Type 0} → Option (List ℕ) → (List ℕ → List X) → List X
at_child None f = []
at_child (Some q) f = f q

-- what is told of links, each at its own path
abbrev pub told_links : List ℕ → Watched → List Link → List NotedLink
told_links p w [] = []
told_links p w (l ∷ ls) = record { count = l.count; change = option_map (told p) l.last } ∷ at_child (joined_by p w l.last) (λ q. told_links q w ls)

-- of the first so many own events of a path it is kept, and of every schedule that has ended, what was the last that changed what is watched; and behind one that
-- joined a child, the same of the child's own events before it
abbrev pub TellsLinks : Space → Watched → List ℕ → ℕ → List Link → Type 0
TellsLinks root w p to [] = NeverChanges root p to w
TellsLinks root w p to (l ∷ ls) = TellsMoment root p to w l.last × ((q : List ℕ) → joined_by p w l.last ≡ Some q → HasBefore root p (number_of l.last) q (count_of ls) × TellsLinks root w q (count_of ls) ls)
