use Rattle.std.proofs.Common.{◌≡◌, length}
use Rattle.board.proofs.runs.empty_lists.Given as goal

-- so many lists
abbrev pub invariant-loop : goal.invariant-loop
invariant-loop l = length l.lists.items ≡ l.counter
