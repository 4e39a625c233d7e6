use Rattle.std.proofs.Common.{◌≡◌, ◌+◌, vec_len}
use Rattle.std.specs.List.{All}
use Rattle.pool_tests.specs.Played.{IsPlayed}
use Rattle.seat_board.specs.Workers.{AreReady}
use Rattle.pool_tests.proofs.seats_by_hand.players_at.Given as goal

abbrev pub invariant-loop-pass : goal.invariant-loop-pass
invariant-loop-pass g l =
    AreReady l.board.lock.table.shared.table_id l.passes.items
    × All (λ p. IsPlayed l.board.lock.table.shared.table_id p.pass p.done p.over) l.players.items
    × (vec_len l.passes + vec_len l.players ≡ vec_len l.initial.passes)

abbrev pub decreases-loop-pass : goal.decreases-loop-pass
decreases-loop-pass g l = vec_len l.passes
