-- What the first seat of a board knows.
-- Our choice: seat 0, the tree and the nodes that the board begins with, and no turn yet.
use Rattle.std.specs.Prelude.{ℕ, [], true, false, Some, None}
use Rattle.space_model.specs.Space.{Space}
use Rattle.seat_board.specs.declared.beginning.Beginning.{Beginning}
use Rattle.seat_board.specs.declared.known.Known.{Known}

abbrev pub seat_0 : Space → ℕ → Known
seat_0 boot nodes = record { marker = record {}; number = 0; lives = true; boot = Some boot; nodes = nodes; job = None; turns = []; over = false; given = 1; ended = [] }

abbrev pub first_known : Beginning → Known
first_known b = seat_0 b.boot b.nodes
