use Rattle.std.proofs.Common.{◌≡◌}
use Rattle.std.specs.Prelude.{option_map}
use Rattle.seat_board.specs.declared.worker.Finished.{Finished}
use Rattle.seat_board.specs.Passes.{known}
use Rattle.seat_board.specs.Seats.{IsDoneOf}
use Rattle.seat_board.specs.Workers.{IsSame}
use Rattle.seat_board.proofs.worker.take_turns.Given as goal

abbrev pub invariant-loop : goal.invariant-loop
invariant-loop g l =
    (l.pass.pass.seat.table_id ≡ l.board.lock.table.shared.table_id)
    × IsSame (known l.initial.pass) (known l.pass)
    × IsDoneOf (known l.pass).job (option_map (λ (w : Finished). w.done) l.finished)
