use Rattle.std.proofs.Common.{[], length}
use Rattle.board.specs.Runs.{Runs}
use Rattle.board.specs.Jobs.{Slots}
use Rattle.board.specs.Listed.{IsListed}
use Rattle.board.proofs.meeting.find_first.Given as goal

abbrev pub invariant-loop-first : goal.invariant-loop-first
invariant-loop-first l = (run : Runs) (out : Slots) → IsListed l.tree run l.fn.calls [] out → IsListed l.tree run l.calls [] out

abbrev pub decreases-loop-first : goal.decreases-loop-first
decreases-loop-first l = length l.calls
