use Rattle.std.proofs.Common.{◌≡◌, length, vec_len}
use Rattle.seat_board.specs.Passes.{known}
use Rattle.seat_board.specs.Workers.{AreReady, IsFirst, IsOfOneBoard}
use Rattle.seat_board.proofs.running.seats_beside.Given as goal

abbrev pub invariant-loop : goal.invariant-loop
invariant-loop l =
    IsFirst l.board.lock.table.shared.table_id l.counter l.first
    × (length (known l.first).ended ≡ 0)
    × (vec_len l.passes ≡ l.counter)
    × IsOfOneBoard l.first l.initial.first
    × AreReady l.board.lock.table.shared.table_id l.passes.items
