-- What is told of a turn of one space of a tree, whatever it is for: a schedule with events of its path alone, how many, and the last that changed what is watched.
-- Our choice: a restatement for proofs.
use Rattle.std.specs.Prelude.{◌≡◌, ℕ, suc, ◌+◌, List, [], length, Option, Some, None}
use Rattle.space_model.specs.Space.{Space}
use Rattle.run_model.specs.Replay.{replay}
use Rattle.event_laws.specs.OwnEvents.{OwnEvent}
use Rattle.explain_core.specs.declared.watching.Moment.{Moment}
use Rattle.explain_core.specs.declared.watching.Watched.{Watched}
use Rattle.explain_core.specs.Going.{own_below}
use Rattle.explain_core.specs.Watch.{IsLastChange, NoneChanges, moment_at}

-- the last of some own events, before which there are so many, that changed what is watched
abbrev pub HasLastFrom : Watched → ℕ → List OwnEvent → Option Moment → Type 0
HasLastFrom w before es None = NoneChanges w es
HasLastFrom w before es (Some m) = (k : ℕ) × (e : OwnEvent) × IsLastChange w es k e × (m ≡ moment_at w (suc (before + k)) e)

-- a space with so many levels of children left below it goes on by so many own events of one path alone, before which there were so many
pub record TurnsAt (levels : ℕ) (w : Watched) (p : List ℕ) (before count : ℕ) (last : Option Moment) (s now : Space) : Type 0 where
  pub schedule : List (List ℕ)
  pub own : List OwnEvent
  pub leads : replay schedule levels s ≡ now
  pub events : own_below levels p schedule s ≡ own
  pub others : (q : List ℕ) → (q ≡ p → ⊥) → own_below levels q schedule s ≡ []
  pub long : length own ≡ count
  pub told : HasLastFrom w before own last
