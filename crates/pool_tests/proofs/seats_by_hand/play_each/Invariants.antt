use Rattle.std.proofs.Common.{◌≡◌, ◌+◌, vec_len}
use Rattle.std.specs.List.{All}
use Rattle.pool_tests.specs.Played.{IsPlayed}
use Rattle.pool_tests.proofs.seats_by_hand.play_each.Given as goal

abbrev pub invariant-loop-player : goal.invariant-loop-player
invariant-loop-player g l =
    All (λ p. IsPlayed l.board.lock.table.shared.table_id p.pass p.done p.over) l.left.items
    × All (λ p. IsPlayed l.board.lock.table.shared.table_id p.pass p.done p.over) l.played.items
    × (vec_len l.left + vec_len l.played ≡ vec_len l.initial.left)

abbrev pub decreases-loop-player : goal.decreases-loop-player
decreases-loop-player g l = vec_len l.left
