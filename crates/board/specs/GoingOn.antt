-- A space that goes on where it stands, within a turn.
-- Our choice: some events, and then it is put out as a job; so a space with few events until its next call is never a job.
use Rattle.std.specs.Prelude.{◌≡◌, ℕ, ◌≤◌, List, [], ◌∷◌, ◌++◌, None}
use Rattle.arrayvec.specs.ArrayVec.{ArrayVec}
use Rattle.space_model.specs.Space.{Space, Top, top_of}
use Rattle.space_model.specs.Path.{with_top}
use Rattle.space_step.specs.Running.{Advances}
use Rattle.space_step.specs.declared.event.Advance.{Advance}
use Rattle.det_core.specs.declared.entry.Entry.TheVariants.{Ran}
use Rattle.det_core.specs.Legal.{RunsAt}
use Rattle.board.specs.Jobs.{MayBeTaken}
use Rattle.board.specs.Value.{Shown}
use Rattle.board.specs.declared.going_on.TheConstants.{EVENTS_IN_PLACE}

-- local events of the space at the rest of a path, as it stands there with so many levels below it, lead from s to t: some at most, one at least where there is memory
pub record GoesBelow (levels : ℕ) (p : List ℕ) (a : Advance) (here s t : Space) : Type 0 where
  pub top : Top
  pub advances : Advances levels EVENTS_IN_PLACE a (top_of here) top
  pub some : a.next ≡ None → 1 ≤ a.ran
  pub now : t ≡ with_top p top s

-- a space that may be taken has had some local events where it stands, one at least: they are the last entry of the history
pub record HasGoneOn (old : Shown) (path : ArrayVec ℕ) (events : ℕ) (new : Shown) : Type 0 where
  pub may : MayBeTaken old.tree old.out path.items
  pub within : events ≤ EVENTS_IN_PLACE
  pub runs : RunsAt path.items events old.tree new.tree
  pub others : new ≡ record old { tree = new.tree; history = old.history ++ Ran path events ∷ [] }
