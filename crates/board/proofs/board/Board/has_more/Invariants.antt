use Rattle.std.proofs.Common.{◌≡◌}
use Rattle.board.proofs.board.Board.has_more.Given as goal

abbrev pub invariant-loop-node : goal.invariant-loop-node
invariant-loop-node l = l.self ≡ l.fn.self
