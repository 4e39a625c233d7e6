use Rattle.std.proofs.Common.{◌≡◌, [], length}
use Rattle.path_set.specs.Paths.{Paths}
use Rattle.board.specs.Jobs.{Slots}
use Rattle.board.specs.Listed.{AreOut, IsListed}
use Rattle.board.specs.Runs.{list_on}
use Rattle.board.proofs.taking.find_first.Given as goal

abbrev pub invariant-loop-first : goal.invariant-loop-first
invariant-loop-first l = (l.run.places ≡ l.fn.run.places) × ((calls : Paths) (out : Slots) → AreOut l.at_work out → IsListed l.tree l.fn.run calls [] out → IsListed l.tree l.run calls [] out)

abbrev pub decreases-loop-first : goal.decreases-loop-first
decreases-loop-first l = length (list_on l.run l.node)
