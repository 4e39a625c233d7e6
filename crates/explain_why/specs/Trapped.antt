-- What is told of a space that a trap has stopped, beside the line of the trap.
-- Our choice: a restatement for proofs.
use Rattle.std.specs.Prelude.{ℕ, ◌-◌, List, Option}
use Rattle.space_model.specs.Space.{Space, Top}
use Rattle.explain_core.specs.Reached.{HasSoMany, IsTrace}
use Rattle.explain_why.specs.Why.{TellsRegister}

-- the last two own events, and who changed a register, where one is asked for
pub record TellsLastTwo (root : Space) (p : List ℕ) (t : Top) (r : Option ℕ) (events source : List ℕ) : Type 0 where
  pub count : ℕ
  pub all : HasSoMany root p count
  pub last_two : IsTrace root p (count - 1) count events
  pub register : TellsRegister root p t r source
