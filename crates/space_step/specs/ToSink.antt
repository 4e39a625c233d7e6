-- Local events of a space whose output goes to a sink, event by event.
-- Our choice: a restatement for callers that write a console while its space runs.
use Rattle.std.specs.Prelude.{◌≡◌, ℕ, ◌<◌, List, ◌++◌, length, take}
use Rattle.det_host.specs.Outside.{Rose, Takes}
use Rattle.det_host.specs.Writing.{Output, Wrote, WrotePrefix}
use Rattle.space_model.specs.Space.{Top}
use Rattle.space_model.specs.Event.{next, moves, Follows}
use Rattle.run_model.specs.Console.{console_in}
use Rattle.space_step.specs.declared.event.Advance.{Advance}
use Rattle.space_step.specs.Running.{Ended}

-- so many local events, and the sink has taken what they wrote to the console
pub record GoesTo (levels ran : ℕ) (o : Output) (old new : Top) : Type 0 where
  pub follows : Follows levels ran old new
  pub written : List ℕ
  pub console : console_in new ≡ console_in old ++ written
  pub taken : Wrote o written

-- and why no more
pub record AdvancesTo (levels quantum : ℕ) (a : Advance) (o : Output) (old new : Top) : Type 0 where
  pub goes : GoesTo levels a.ran o old new
  pub ended : Ended levels quantum a.ran a.next new

-- some local events, of which the last wrote a piece to the console: the sink has taken what all before it wrote, and some first bytes of the piece, and not
-- all, and has counted a fault
pub record StopsAtLast (levels : ℕ) (o : Output) (old new : Top) : Type 0 where
  pub before : ℕ
  pub top : Top
  pub follows : Follows levels before old top
  pub last : next levels top ≡ moves new
  pub early : List ℕ
  pub console : console_in top ≡ console_in old ++ early
  pub piece : List ℕ
  pub wrote : console_in new ≡ console_in top ++ piece
  pub count : ℕ
  pub taken : Takes o.taken_before o.taken_after (early ++ take count piece)
  pub not_all : count < length piece
  pub fault : Rose o.faults_before o.faults_after

-- some local events, and the sink has taken some first bytes of what they wrote to the console
pub record GoesPartlyTo (levels : ℕ) (o : Output) (old new : Top) : Type 0 where
  pub ran : ℕ
  pub follows : Follows levels ran old new
  pub written : List ℕ
  pub console : console_in new ≡ console_in old ++ written
  pub prefix : WrotePrefix o written
