use Rattle.std.proofs.Common.{◌≡◌, vec_len}
use Rattle.std.specs.List.{All}
use Rattle.pool_tests.specs.Played.{IsPlayed}
use Rattle.seat_board.specs.Passes.{known}
use Rattle.seat_board.specs.Workers.{IsSame}
use Rattle.pool_tests.proofs.seats_by_hand.play_to_end.Given as goal

abbrev pub invariant-loop : goal.invariant-loop
invariant-loop g l =
    IsPlayed l.board.lock.table.shared.table_id l.first.pass l.first.done l.first.over
    × IsSame (known l.initial.first.pass) (known l.first.pass)
    × All (λ p. IsPlayed l.board.lock.table.shared.table_id p.pass p.done p.over) l.others.items
    × (vec_len l.others ≡ vec_len l.initial.others)
