-- Which spaces of a tree may go on, and what becomes of the tree: one event at one path, in any order that a scheduler may choose.
-- Source: OSDI 2010, "Efficient System-Enforced Deterministic Parallelism", the kernel interface: Put and Get wait until the child has stopped.
-- Our choice: one event at one path as the step of a schedule.
use Rattle.std.specs.Prelude.{ℕ, pred, Bool, true, false, ◌&&◌, cond, List, [], ◌∷◌, Option, Some, None, option_and_then}
use Rattle.space_model.specs.Stop.{is_stopped}
use Rattle.space_model.specs.Space.{Space, space, Children, top_of, children_of, find, over, is_settled}
use Rattle.space_model.specs.Path.{under}
use Rattle.space_model.specs.declared.Reach.{Reach}
use Rattle.space_model.specs.declared.Reach.TheVariants.{Itself, Whole}
use Rattle.space_model.specs.declared.Await.{Await}
use Rattle.call_model.specs.declared.Call.{Call}
use Rattle.space_model.specs.Meeting.{awaits, meet}
use Rattle.space_model.specs.Event.{NextEvent, rests, moves, meets, next}

-- a child that is awaited is ready where it is missing, or stopped, or, where it is awaited whole, settled
abbrev pub is_ready : Reach → Option Space → Bool
is_ready reach None = true
is_ready Itself (Some c) = let t = top_of c in is_stopped t.status
is_ready Whole (Some c) = is_settled c

abbrev pub are_ready : List Await → Children → Bool
are_ready [] cs = true
are_ready (a ∷ others) cs = is_ready a.reach (find a.number cs) && are_ready others cs

-- the event that is next may happen
abbrev pub may_happen : NextEvent → Children → Bool
may_happen rests cs = false
may_happen (moves t) cs = true
may_happen (meets k t) cs = are_ready (awaits k) cs

-- what becomes of a space by the event that is next, with so many levels of children left below it
abbrev pub event : ℕ → NextEvent → Space → Space
event levels rests s = s
event levels (moves t) s = space t (children_of s)
event levels (meets k t) s = meet levels k t (children_of s)

abbrev pub on_child : (Space → Bool) → Option Space → Bool
on_child f None = false
on_child f (Some s) = f s

-- the event at a path may happen, of a space with so many levels of children left below it
abbrev pub is_enabled : List ℕ → ℕ → Space → Bool
is_enabled [] levels s = may_happen (next levels (top_of s)) (children_of s)
is_enabled (n ∷ p) levels s = on_child (is_enabled p (pred levels)) (find n (children_of s))

-- the event at a path, where a space stands there
abbrev pub step : List ℕ → ℕ → Space → Space
step [] levels s = event levels (next levels (top_of s)) s
step (n ∷ p) levels s = under (over n (step p (pred levels))) s

-- the event at a path where it may happen, else nothing
abbrev pub try_step : List ℕ → ℕ → Space → Space
try_step p levels s = cond (is_enabled p levels s) (step p levels s) s

-- the event that is next is of the space alone
abbrev pub is_local : NextEvent → Bool
is_local rests = false
is_local (moves t) = true
is_local (meets k t) = false

-- a space at a path runs, and the event that is next there is of it alone
abbrev pub is_local_at : List ℕ → ℕ → Space → Bool
is_local_at [] levels s = is_local (next levels (top_of s))
is_local_at (n ∷ p) levels s = on_child (is_local_at p (pred levels)) (find n (children_of s))

-- the call that is next, where what it waits for is ready
abbrev pub ready_call : NextEvent → Children → Option Call
ready_call rests cs = None
ready_call (moves t) cs = None
ready_call (meets k t) cs = cond (are_ready (awaits k) cs) (Some k) None

-- the call at a path that may meet its children
abbrev pub call_at : List ℕ → ℕ → Space → Option Call
call_at [] levels s = ready_call (next levels (top_of s)) (children_of s)
call_at (n ∷ p) levels s = option_and_then (call_at p (pred levels)) (find n (children_of s))

abbrev pub where_some : Option Call → Space → Space → Space
where_some None done s = s
where_some (Some k) done s = done

-- the call at a path has met its children where it may, else nothing
abbrev pub try_meet : List ℕ → ℕ → Space → Space
try_meet p levels s = where_some (call_at p levels s) (step p levels s) s
