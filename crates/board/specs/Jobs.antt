-- Jobs that are out, and the spaces that may be taken.
-- Our choice: a board hands out what has local events, each at most once at a time.
use Rattle.std.specs.Prelude.{◌≡◌, ◌≢◌, ℕ, true, List, Option, Some, None, slice_index_or}
use Rattle.call_model.specs.Limits.{greatest_depth}
use Rattle.space_model.specs.Space.{Space}
use Rattle.run_model.specs.Schedule.{is_local_at}
use Rattle.node_places.specs.Places.{Places, place_of}
use Rattle.board.specs.declared.job.Out.{Out}

abbrev pub Slots : Type 0
Slots = List (Option Out)

-- the job that is out in a slot
abbrev pub out_at : Slots → ℕ → Option Out
out_at out slot = slice_index_or out slot None

-- the job of a slot is for the space at a path
abbrev pub IsFor : Slots → ℕ → List ℕ → Type 0
IsFor out slot p = (o : Out) × (out_at out slot ≡ Some o) × (o.path.items ≡ p)

-- a job for the space at a path is out
abbrev pub IsOut : Slots → List ℕ → Type 0
IsOut out p = (slot : ℕ) × IsFor out slot p

-- no job is out
abbrev pub IsNoneOut : Slots → Type 0
IsNoneOut out = (slot : ℕ) → out_at out slot ≡ None

-- the slot has become this, and no other has changed
pub record Sets (slot : ℕ) (o : Option Out) (old new : Slots) : Type 0 where
  pub here : out_at new slot ≡ o
  pub others : (other : ℕ) → other ≢ slot → out_at new other ≡ out_at old other

-- a space that may be taken: it runs, what is next is of it alone, and no job is out for it
pub record MayBeTaken (tree : Space) (out : Slots) (p : List ℕ) : Type 0 where
  pub goes : is_local_at p greatest_depth tree ≡ true
  pub inside : IsOut out p → ⊥

-- and it stands on this node
pub record MayBeTakenOn (places : Places) (node : ℕ) (tree : Space) (out : Slots) (p : List ℕ) : Type 0 where
  pub may : MayBeTaken tree out p
  pub there : place_of places p ≡ node
