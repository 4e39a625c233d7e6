use Rattle.std.proofs.Common.{◌≡◌, ℕ, ◌+◌, ◌*◌, take}
use Rattle.path_set.specs.Paths.{Has}
use Rattle.board.specs.Runs.{HasAllLists, HasRun}
use Rattle.board.specs.Listed.{HasAll, HasEnabledBelow}
use Rattle.board.proofs.Beginnings.{IsIn}
use Rattle.board.proofs.beginning.+all.Given as goal

abbrev pub decreases-list_all : goal.decreases-list_all
decreases-list_all l = 2 * l.levels + 1

abbrev pub decreases-list_child : goal.decreases-list_child
decreases-list_child l = 2 * l.levels

abbrev pub invariant-list_all-loop-index : goal.invariant-list_all-loop-index
invariant-list_all-loop-index l =
    (l.run.places ≡ l.fn.run.places) × HasAllLists l.run l.fn.run × HasAll (Has l.calls) (Has l.fn.calls) × (HasRun l.run l.path.items × Has l.calls l.path.items)
    × ((n : ℕ) → IsIn (take l.index l.numbers.items) n → HasEnabledBelow (HasRun l.run) l.path.items l.levels n l.space × HasEnabledBelow (Has l.calls) l.path.items l.levels n l.space)
