-- A console that is written to a sink as it grows.
-- Our choice: how far the sink may be behind.
use Rattle.std.specs.Prelude.{◌≡◌, ◌⊎◌, ℕ, ◌+◌, ◌≤◌, ◌<◌, List, ◌++◌, length, take, max}
use Rattle.call_model.specs.Limits.{greatest_depth}
use Rattle.space_model.specs.Space.{Space}
use Rattle.space_model.specs.Sound.{IsSound}
use Rattle.run_model.specs.Demand.{settle_tree}
use Rattle.report_model.specs.Report.{console_of}
use Rattle.det_host.specs.Outside.{Rose, Takes}
use Rattle.det_host.specs.Writing.{Output, Wrote, WrotePrefix}
use Rattle.demand_eval.specs.Turns.{by_demand}

-- How far a root has gone on from one tree to another, of whose console a sink has taken this many first bytes.
abbrev pub Far : Type 1
Far = ℕ → Space → Space → Type 0

-- by demand, and by one event at most behind what the sink has taken: it has taken all that the console held before the last event
pub record ByOneEvent (count : ℕ) (s at : Space) : Type 0 where
  pub before : ℕ
  pub last : at ≡ by_demand greatest_depth (before + 1) s
  pub covered : length (console_of (by_demand greatest_depth before s)) ≤ count

-- A tree whose console could not be written any further: it settles to what the first tree settles to, its console goes on from that one's, and the sink
-- has counted a fault. The sink has taken some first bytes of the console, and not all of them; and the console is longer than what the sink has taken,
-- or than it was at first, by so many bytes at most. The root is where it was at first, or has gone on so far.
pub record StandsStill (most : ℕ) (far : Far) (o : Output) (s at : Space) : Type 0 where
  pub sound : IsSound at
  pub same : settle_tree at ≡ settle_tree s
  pub more : List ℕ
  pub begins : console_of at ≡ console_of s ++ more
  pub count : ℕ
  pub taken : Takes o.taken_before o.taken_after (take count (console_of at))
  pub not_all : count < length (console_of at)
  pub near : length (console_of at) ≤ max (length (console_of s)) count + most
  pub went : (at ≡ s) ⊎ far count s at
  pub fault : Rose o.faults_before o.faults_after

-- the console has grown by some bytes, and the sink has taken them
abbrev pub Writes : Output → Space → Space → Type 0
Writes o old new = (more : List ℕ) × ((console_of new ≡ console_of old ++ more) × Wrote o more)

-- the console has grown by some bytes, of which the sink has taken some first ones, and not all, and is behind by so many at most; the root has gone on so far
pub record Lags (most : ℕ) (far : Far) (o : Output) (s at : Space) : Type 0 where
  pub sound : IsSound at
  pub same : settle_tree at ≡ settle_tree s
  pub more : List ℕ
  pub begins : console_of at ≡ console_of s ++ more
  pub count : ℕ
  pub taken : Takes o.taken_before o.taken_after (take count more)
  pub not_all : count < length more
  pub near : length more ≤ count + most
  pub went : far (length (console_of s) + count) s at
  pub fault : Rose o.faults_before o.faults_after

-- the sink has taken some first bytes of those that the console of a later tree, which settles to the same, has more
pub record Begins (o : Output) (s : Space) : Type 0 where
  pub at : Space
  pub same : settle_tree at ≡ settle_tree s
  pub more : List ℕ
  pub begins : console_of at ≡ console_of s ++ more
  pub prefix : WrotePrefix o more
