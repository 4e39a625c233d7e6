use Rattle.std.proofs.Common.{◌≡◌, ◌++◌, true, vec_len}
use Rattle.std.specs.Prelude.{IfOk}
use Rattle.std.specs.List.{All}
use Rattle.seat_board.specs.Passes.{known}
use Rattle.seat_board.specs.Workers.{IsFirst, IsOfOneBoard, IsReady, taken_from}
use Rattle.seat_board.proofs.running.gather.Given as goal

abbrev pub invariant-loop-one : goal.invariant-loop-one
invariant-loop-one l =
    IsFirst l.board.lock.table.shared.table_id (vec_len l.others) l.first
    × ((known l.first).over ≡ true)
    × IsOfOneBoard l.first l.initial.first
    × ((known l.first).given ≡ (known l.initial.first).given)
    × ((known l.first).turns ≡ (known l.initial.first).turns)
    × ((known l.first).ended ++ taken_from l.others.items ≡ (known l.initial.first).ended ++ taken_from l.initial.others.items)
    × All (λ r. IfOk r (IsReady l.board.lock.table.shared.table_id)) l.others.items

abbrev pub decreases-loop-one : goal.decreases-loop-one
decreases-loop-one l = vec_len l.others
