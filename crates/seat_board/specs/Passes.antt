-- A seat, as contracts read it.
-- Our choice: what a seat knows, the desk as its last turn found it, and what a turn does to both.
use Rattle.std.specs.Prelude.{◌≡◌, ℕ, Option, Some, true, Result, Ok, Err}
use Rattle.std.specs.List.{All}
use Rattle.std.specs.declared.alloc.AllocError.{AllocError}
use Rattle.worker_pool.specs.declared.shop.Turn.{Turn}
use Rattle.board.specs.declared.job.Job.{Job}
use Rattle.board.specs.declared.done.Done.{Done}
use Rattle.board.specs.Turns.{IsFinished}
use Rattle.seat_board.specs.declared.known.Known.{Known}
use Rattle.seat_board.specs.declared.pass.Pass.{Pass}
use Rattle.seat_board.specs.Held.{Held, Ended}
use Rattle.seat_board.specs.Desk.{Desk, IsSeatTurn, IsRefused, turns_of}
use Rattle.seat_board.specs.Seats.{IsHeld, after}

abbrev pub known : Pass → Known
known p = p.pass.seat.me.0.core

-- the desk as the last turn of a seat found it
abbrev pub noted : Pass → Option Desk
noted p = p.pass.seat.me.0.noted

-- What a seat finds on the desk as its turn begins: the board began with the tree that the seat knows, its job is out, its turns stand in the log, each once, in their order, and if it was told that the board is over, it is.
pub record Finds (c : Known) (d : Desk) : Type 0 where
  pub boot : (c.boot ≡ Some (let b = d.board in b.boot)) × (c.nodes ≡ (let b = d.board in let places = b.places in places.nodes))
  pub job : (h : Held) → c.job ≡ Some h → IsHeld d.board h
  pub turns : c.turns ≡ turns_of c.number d.log
  pub ended : All (λ (e : Ended). e.turns ≡ turns_of e.number d.log) c.ended
  pub over : c.over ≡ true → IsFinished d.board

abbrev pub Answers : ℕ → Option Done → Desk → Result (Turn Job) AllocError → Desk → Type 0
Answers number done found (Ok t) given = IsSeatTurn number done found t given
Answers number done found (Err e) given = IsRefused done found given

-- a turn of a seat: from what it found to what it gave back, and what it knows then
pub record HasTurn (old : Known) (done : Option Done) (r : Result (Turn Job) AllocError) (found : Option Desk) (new : Known) : Type 0 where
  pub before : Desk
  pub noted : found ≡ Some before
  pub finds : Finds old before
  pub given : Desk
  pub does : Answers old.number done before r given
  pub knows : new ≡ after old before given
