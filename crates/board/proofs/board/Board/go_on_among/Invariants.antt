use Rattle.std.proofs.Common.{◌≡◌}
use Rattle.board.specs.Turns.{NoneAmong}
use Rattle.board.proofs.board.Board.go_on_among.Given as goal

abbrev pub invariant-loop-node : goal.invariant-loop-node
invariant-loop-node l = (l.self ≡ l.fn.self) × NoneAmong l.fn.self l.from l.node
