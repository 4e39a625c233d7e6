-- A root that goes on apart from the spaces below it, and what it writes to its console.
-- Our choice: a restatement for proofs.
use Rattle.std.specs.Prelude.{◌≡◌, ◌⊎◌, ℕ, ◌*◌, ◌≤◌, false, List, ◌++◌, length, IfOk}
use Rattle.call_model.specs.Limits.{greatest_depth}
use Rattle.space_model.specs.Space.{Space, Top, top_of}
use Rattle.space_model.specs.Event.{Follows}
use Rattle.report_model.specs.Report.{console_of}
use Rattle.run_model.specs.Console.{console_in, most_output}
use Rattle.demand_eval.specs.Streams.{Far, ByOneEvent}
use Rattle.round_eval.specs.Later.{IsLater}
use Rattle.round_eval.specs.declared.beside.RootDone.{RootDone}
use Rattle.round_eval.specs.declared.beside.BegunRoot.{BegunRoot}
use Rattle.round_eval.specs.declared.beside.BegunRoot.TheVariants.{Running, Ended}

-- so many local events, a quantum at most, lead from one top to another; they wrote these bytes to the console, no more than so many events may
pub record WentWriting (quantum ran : ℕ) (output : List ℕ) (old new : Top) : Type 0 where
  pub follows : Follows greatest_depth ran old new
  pub brief : ran ≤ quantum
  pub console : console_in new ≡ console_in old ++ output
  pub few : length output ≤ quantum * most_output

-- The root went on, for so many local events at most. Its console has grown, by no more than so many events may write, and what it has more stands behind what
-- was ready.
pub record Shows (events : ℕ) (ready output : List ℕ) (old new : Space) : Type 0 where
  pub ran : ℕ
  pub brief : ran ≤ events
  pub follows : Follows greatest_depth ran (top_of old) (top_of new)
  pub more : List ℕ
  pub console : console_of new ≡ console_of old ++ more
  pub appended : output ≡ ready ++ more
  pub few : length more ≤ events * most_output

-- the same, and then others went on, which write nothing to the console
abbrev pub ShowsThen : ℕ → List ℕ → List ℕ → Space → Space → Type 0
ShowsThen events ready output old new = (mid : Space) × (Shows events ready output old mid × (console_of new ≡ console_of mid))

-- all that the root's console has more it wrote in so many local events of its own at most
pub record RootWithin (events : ℕ) (old new : Space) : Type 0 where
  pub ran : ℕ
  pub brief : ran ≤ events
  pub top : Top
  pub follows : Follows greatest_depth ran (top_of old) top
  pub wrote : console_of new ≡ console_in top

-- a round from a tree whose console the sink has taken whole
pub record InOneQuantum (quantum count : ℕ) (old new : Space) : Type 0 where
  pub covered : length (console_of old) ≤ count
  pub root : RootWithin quantum old new

-- By a schedule, and then behind what the sink has taken by one quantum of the root's own events at most; or, where no round has an event any more, by one
-- event on demand.
abbrev pub ByOneQuantum : ℕ → Far
ByOneQuantum quantum count s at = (mid : Space) × (IsLater false s mid × (InOneQuantum quantum count mid at ⊎ ByOneEvent count mid at))

-- what became of a root that was to go on for a quantum
abbrev pub RootWent : ℕ → Top → RootDone → Type 0
RootWent quantum t done = WentWriting quantum done.ran done.output.items t done.top

-- the thread promised what becomes of this root in this quantum, or this is what became of it
abbrev pub IsForRoot : ℕ → Top → BegunRoot → Type 0
IsForRoot quantum t (Running handle) = let promise = handle.promise in (promise.start.value ≡ t) × (promise.quantum ≡ quantum)
IsForRoot quantum t (Ended result) = IfOk result (λ done. RootWent quantum t done)
