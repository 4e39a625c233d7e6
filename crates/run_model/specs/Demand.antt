-- The demand-driven meaning: a child runs when it is waited for, so no two spaces run at once. In Determinator (OSDI 2010) a child runs
-- beside its parent from its Start on, and Put and Get wait for it. Beside each space stands the number of events that it took.
-- Our choice: the meaning of a run; in OSDI 2010 a child runs beside its parent, and Put and Get wait for it.
use Rattle.std.specs.Prelude.{ℕ, zero, suc, ◌+◌, cond, List, [], ◌∷◌, Option, Some, None}
use Rattle.space_model.specs.Stop.{is_stopped}
use Rattle.space_model.specs.Space.{Space, space, Children, none, child, Top, top_of, children_of, find, over}
use Rattle.call_model.specs.Limits.{greatest_depth}
use Rattle.call_model.specs.declared.Call.{Call}
use Rattle.space_model.specs.declared.Reach.{Reach}
use Rattle.space_model.specs.declared.Reach.TheVariants.{Itself, Whole}
use Rattle.space_model.specs.declared.Await.{Await}
use Rattle.space_model.specs.Meeting.{awaits, meet}
use Rattle.space_model.specs.Event.{NextEvent, rests, moves, meets, next}

pub record Ran : Type 0 where
  pub space : Space
  pub events : ℕ

pub record Waited : Type 0 where
  pub children : Children
  pub events : ℕ

-- what becomes of a child that is awaited
abbrev pub Meaning : Type 0
Meaning = Reach → Space → Ran

abbrev pub wait_for_child : Meaning → Await → Children → Option Space → Waited
wait_for_child f a cs None = record { children = cs; events = 0 }
wait_for_child f a cs (Some c) = record { children = over a.number (λ d. (f a.reach c).space) cs; events = (f a.reach c).events }

abbrev pub and_then : Waited → (Children → Waited) → Waited
and_then w f = record { children = (f w.children).children; events = w.events + (f w.children).events }

-- each awaited child that is there has run, or has settled
abbrev pub wait_for : Meaning → List Await → Children → Waited
wait_for f [] cs = record { children = cs; events = 0 }
wait_for f (a ∷ others) cs = and_then (wait_for_child f a cs (find a.number cs)) (wait_for f others)

abbrev pub with_events : ℕ → Ran → Ran
with_events n r = record { space = r.space; events = n + r.events }

-- the caller after a call, with so many levels of children left below it, and the events until then
abbrev pub after_meeting : ℕ → Call → Top → Waited → (Space → Ran) → Ran
after_meeting levels k t w again = with_events (w.events + 1) (again (meet levels k t w.children))

abbrev pub go_on : ℕ → NextEvent → Space → Meaning → (Space → Ran) → Ran
go_on levels rests s f again = record { space = s; events = 0 }
go_on levels (moves t) s f again = with_events 1 (again (space t (children_of s)))
go_on levels (meets k t) s f again = after_meeting levels k t (wait_for f (awaits k) (children_of s)) again

-- a space runs until it stops, over what its children do when they are waited for, for at most so many events of its own
unfoldable pub run_for : Meaning → ℕ → ℕ → Space → Ran
run_for f levels zero s = record { space = s; events = 0 }
run_for f levels (suc n) s = go_on levels (next levels (top_of s)) s f (run_for f levels n)

-- every child, whole
abbrev pub everyone : Children → List Await
everyone none = []
everyone (child n s rest) = record { number = n; reach = Whole } ∷ everyone rest

abbrev pub with_children : Ran → Waited → Ran
with_children r w = record { space = space (top_of r.space) w.children; events = r.events + w.events }

-- a space awaited itself has run; one awaited whole is settled by settling its children as well
abbrev pub finish : Reach → Meaning → Ran → Ran
finish Itself f r = r
finish Whole f r = with_children r (wait_for f (everyone (children_of r.space)) (children_of r.space))

abbrev pub no_events : Meaning
no_events reach s = record { space = s; events = 0 }

-- With so many levels of children left below the space. Each event but the last, a stop, takes a unit of fuel.
unfoldable pub meaning : ℕ → Reach → Space → Ran
meaning zero reach s = finish reach no_events (run_for no_events zero (suc (top_of s).fuel) s)
meaning (suc levels) reach s = finish reach (meaning levels) (run_for (meaning levels) (suc levels) (suc (top_of s).fuel) s)

-- how many events of its own a space has left at most
abbrev pub left_of : Top → ℕ
left_of t = cond (is_stopped t.status) 0 (suc t.fuel)

-- run until it stops
abbrev pub run : ℕ → Space → Space
run levels s = (meaning levels Itself s).space

-- run until no space in it runs
abbrev pub settle : ℕ → Space → Space
settle levels s = (meaning levels Whole s).space

-- how many events that takes
abbrev pub work : ℕ → Space → ℕ
work levels s = (meaning levels Whole s).events

-- what becomes of a child of a space with so many levels left below it
abbrev pub of_children : ℕ → Meaning
of_children zero = no_events
of_children (suc levels) = meaning levels

-- a whole tree has as many levels of children below its root as the depth of the deepest spaces
abbrev pub settle_tree : Space → Space
settle_tree s = settle greatest_depth s
