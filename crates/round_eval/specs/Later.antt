-- A tree later in the same run.
-- Our choice: a name for what a schedule leads to.
use Rattle.std.specs.Prelude.{◌≡◌, ℕ, ◌≤◌, Bool, true}
use Rattle.call_model.specs.Limits.{greatest_depth}
use Rattle.space_model.specs.Space.{Space}
use Rattle.det_laws.specs.Leads.{Reaches}

-- events that may happen, each in its turn, lead from one tree to the other, one of them at least where it is said so
pub record IsLater (any : Bool) (old new : Space) : Type 0 where
  pub events : ℕ
  pub reached : Reaches greatest_depth old events new
  pub some : any ≡ true → 1 ≤ events
