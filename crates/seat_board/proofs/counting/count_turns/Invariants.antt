use Rattle.std.proofs.Common.{◌≡◌, ℕ, ◌<◌, ◌==◌, get_or, length, take}
use Rattle.std.specs.List.{count_by}
use Rattle.seat_board.specs.declared.seat_turn.SeatTurn.{SeatTurn}
use Rattle.seat_board.proofs.counting.count_turns.Given as goal

abbrev pub invariant-loop-turn : goal.invariant-loop-turn
invariant-loop-turn l = (n : ℕ) → n < length l.counts → get_or l.counts n 0 ≡ count_by (λ (t : SeatTurn). t.seat == n) (take l.turn-index l.turns)
