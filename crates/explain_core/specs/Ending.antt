-- The last own events of a path, where it is known beforehand how many there are to be.
-- Our choice: a restatement for proofs.
use Rattle.std.specs.Prelude.{◌≡◌, ℕ, ◌+◌, ◌-◌, List, length, Option, Some, None, ◌⊎◌}
use Rattle.space_model.specs.Sound.{IsSound}
use Rattle.space_model.specs.Space.{Space}
use Rattle.event_laws.specs.OwnEvents.{OwnEvent}
use Rattle.explain_core.specs.declared.watching.Asked.{Asked}
use Rattle.explain_core.specs.declared.watching.Noticing.TheVariants.{Change}
use Rattle.explain_core.specs.declared.watching.Watched.{Watched}
use Rattle.explain_core.specs.Beside.{all}
use Rattle.explain_core.specs.Going.{GoesBy}
use Rattle.explain_core.specs.Reached.{HasAtLeast, HasFewerThan, HasSoMany, IsTrace, TellsLastOf}
use Rattle.explain_core.specs.Watch.{Kept, Noted, keep_all, nothing_kept}

-- each event is noticed by which what is watched changes, where anything is watched
abbrev pub NoticesChange : Option Watched → Asked → Type 0
NoticesChange None a = Unit {0}
NoticesChange (Some w) a = (a.from ≡ 1) × (a.noticing ≡ Change w)

-- own events of a path are asked for, up to that of a number
pub record AsksChange (p : List ℕ) (number : ℕ) (w : Option Watched) (a : Asked) : Type 0 where
  pub path : a.path.items ≡ p
  pub to : a.to ≡ number
  pub noticing : NoticesChange w a

-- of own events, before which there are none, it is kept what was the last that changed what is watched, where anything is
abbrev pub KeepsChange : Option Watched → List OwnEvent → Kept → Type 0
KeepsChange None own kept = Unit {0}
KeepsChange (Some w) own kept = (a : Asked) × (a.from ≡ 1) × (a.noticing ≡ Change w) × (kept ≡ keep_all a 0 own nothing_kept)

-- a tree has come to where so many own events of a path have happened, and this is kept of them
pub record HasHad (start : Space) (p : List ℕ) (n : ℕ) (w : Option Watched) (so_far : Kept) (now : Space) : Type 0 where
  pub own : List OwnEvent
  pub goes : GoesBy 8 p own start now
  pub count : length own ≡ n
  pub kept : KeepsChange w own so_far

-- from where all but the last two of so many own events have happened: there are so many, and these are the lines of the last two
abbrev pub TellsLines : List ℕ → ℕ → Space → List ℕ → Type 0
TellsLines p count now text = (start : Space) (w : Option Watched) (kept : Kept) → IsSound start → HasHad start p (count - 2) w kept now → HasSoMany start p count × IsTrace start p (count - 1) count text

-- or there are fewer or more
abbrev pub HasOthers : List ℕ → ℕ → Space → Type 0
HasOthers p count now = (start : Space) (w : Option Watched) (kept : Kept) → IsSound start → HasHad start p (count - 2) w kept now → HasFewerThan start p count ⊎ HasAtLeast start p (count + 1)

-- and where there are so many, what is told of the last that changed what is watched
abbrev pub TellsChange : List ℕ → ℕ → Option Watched → Kept → Space → Option Noted → Type 0
TellsChange p count w kept now c = (start : Space) → IsSound start → HasHad start p (count - 2) w kept now → HasSoMany start p count → TellsLastOf start p all w c
