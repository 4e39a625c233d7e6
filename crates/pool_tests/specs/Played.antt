-- A seat that a test works at by hand.
-- Our choice: what is to be handed in next is kept beside the seat.
use Rattle.std.specs.Prelude.{◌≡◌, Bool, true, Option}
use Rattle.atomic_table.specs.Seated.{TableId}
use Rattle.board.specs.declared.done.Done.{Done}
use Rattle.seat_board.specs.declared.pass.Pass.{Pass}
use Rattle.seat_board.specs.Passes.{known}
use Rattle.seat_board.specs.Seats.{IsDoneOf}

-- a seat of this table, what came of its job, and whether it was told that the board is over
pub record IsPlayed (table : TableId) (p : Pass) (done : Option Done) (over : Bool) : Type 0 where
  pub here : p.pass.seat.table_id ≡ table
  pub owns : IsDoneOf (known p).job done
  pub told : over ≡ true → (known p).over ≡ true
