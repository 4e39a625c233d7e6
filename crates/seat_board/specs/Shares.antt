-- Whose turn each was, in a run by so many workers.
-- Our choice: one log for all; the turns of each worker are those of its number in it, and it had one at least, by which it was told that the board is over.
use Rattle.std.specs.Prelude.{◌≡◌, ℕ, ◌≤◌, List, length, EachIndex, slice_index}
use Rattle.std.specs.List.{All}
use Rattle.seat_board.specs.declared.known.Known.{Known}
use Rattle.seat_board.specs.Held.{Ended}
use Rattle.seat_board.specs.Desk.{SeatEntry, turns_of}
use Rattle.seat_board.specs.Seats.{EachOnce, numbers}

-- a seat that has ended had a turn
abbrev pub HasTurned : Ended → Type 0
HasTurned e = 1 ≤ length e.turns

-- The workers of a log: their seats as they ended, each number below the count once. The turns of each are in the log, each once, in their order, and it had one at least.
pub record IsOfWorkers (workers : ℕ) (log : List SeatEntry) : Type 0 where
  pub seats : List Ended
  pub many : length seats ≡ workers
  pub once : EachOnce workers (numbers seats)
  pub turns : All (λ (e : Ended). e.turns ≡ turns_of e.number log) seats
  pub some : All HasTurned seats

-- how many turns of the log each of so many workers had, in the order of their numbers
pub record AreCounts (workers : ℕ) (log : List SeatEntry) (counts : List ℕ) : Type 0 where
  pub many : length counts ≡ workers
  pub each : EachIndex counts (λ n. slice_index counts n ≡ length (turns_of n log))

-- all workers have ended, each of which had a turn; seat 0 has taken in the others
pub record HaveEnded (workers : ℕ) (c : Known) : Type 0 where
  pub given : c.given ≡ workers
  pub own : 1 ≤ length c.turns
  pub others : All HasTurned c.ended
