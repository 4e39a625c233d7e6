use Rattle.std.proofs.Common.{◌≡◌, ◌+◌, vec_len}
use Rattle.std.specs.Prelude.{IfOk}
use Rattle.std.specs.List.{All}
use Rattle.pool_tests.specs.Played.{IsPlayed}
use Rattle.seat_board.specs.Workers.{IsReady}
use Rattle.pool_tests.proofs.seats_by_hand.passes_of.Given as goal

abbrev pub invariant-loop-player : goal.invariant-loop-player
invariant-loop-player g l =
    All (λ p. IsPlayed l.board.lock.table.shared.table_id p.pass p.done p.over) l.players.items
    × All (λ r. IfOk r (IsReady l.board.lock.table.shared.table_id)) l.passes.items
    × (vec_len l.players + vec_len l.passes ≡ vec_len l.initial.players)

abbrev pub decreases-loop-player : goal.decreases-loop-player
decreases-loop-player g l = vec_len l.players
