-- Local events of a space, some at a time.
-- Our choice: a restatement for proofs.
use Rattle.std.specs.Prelude.{◌≡◌, ℕ, suc, ◌≤◌, ◌<◌, Option, Some, None}
use Rattle.space_model.specs.Space.{Top}
use Rattle.space_model.specs.Change.{after_payment}
use Rattle.space_model.specs.Event.{next, rests, moves, meets, Follows}
use Rattle.run_model.specs.Console.{console_in}
use Rattle.space_step.specs.declared.event.Next.{Next}
use Rattle.space_step.specs.declared.event.Next.TheVariants.{Local, Meet, Stopped}
use Rattle.space_step.specs.declared.event.Advance.{Advance}
use Rattle.space_step.specs.declared.running.Progress.{Progress}
use Rattle.space_step.specs.declared.running.Progress.TheVariants.{Went, Blocked}
use Rattle.space_step.specs.Steps.{IsNextLocal}

-- what is next is no local event, and this; or a local event, for which there was no memory
abbrev pub IsBlocked : ℕ → Option Next → Top → Type 0
IsBlocked levels None t = IsNextLocal levels t
IsBlocked levels (Some Local) t = ⊥
IsBlocked levels (Some (Meet k)) t = next levels t ≡ meets k (after_payment t t)
IsBlocked levels (Some Stopped) t = next levels t ≡ rests

-- why there were so many events, where there might have been so many
abbrev pub Ended : ℕ → ℕ → ℕ → Option Next → Top → Type 0
Ended levels quantum ran (Some Local) t = ran ≡ quantum
Ended levels quantum ran other t = (ran < quantum) × IsBlocked levels other t

-- so many local events, and why no more
pub record Advances (levels quantum : ℕ) (a : Advance) (old new : Top) : Type 0 where
  pub follows : Follows levels a.ran old new
  pub ended : Ended levels quantum a.ran a.next new

-- some local events of at most so many; or any number, and what is next is none
abbrev pub Goes : ℕ → ℕ → Progress → Top → Top → Type 0
Goes levels quantum (Went n) old new = Follows levels n old new × (n ≤ quantum) × (1 ≤ n)
Goes levels quantum (Blocked n next) old new = Follows levels n old new × (n < quantum) × IsBlocked levels next new

-- the last of so many events, before which the console was as at first
pub record WritesAtLast (levels n : ℕ) (old new : Top) : Type 0 where
  pub before : ℕ
  pub top : Top
  pub count : n ≡ suc before
  pub follows : Follows levels before old top
  pub quiet : console_in top ≡ console_in old
  pub last : next levels top ≡ moves new

-- events of which the last alone may have written to the console; of those that something blocks none has
abbrev pub ProgressWrites : ℕ → Progress → Top → Top → Type 0
ProgressWrites levels (Went n) old new = WritesAtLast levels n old new
ProgressWrites levels (Blocked n next) old new = console_in new ≡ console_in old
