use Rattle.std.proofs.Common.{◌≡◌, take}
use Rattle.path_set.specs.Paths.{Has}
use Rattle.board.specs.Runs.{HasAllLists, HasAtHome}
use Rattle.board.specs.Listed.{HasAll}
use Rattle.board.proofs.Ways.{HasSome}
use Rattle.board.proofs.listing.list_awaited.Given as goal

abbrev pub invariant-loop-index : goal.invariant-loop-index
invariant-loop-index l =
    (l.run.places ≡ l.fn.run.places) × HasAllLists l.run l.fn.run × HasAll (Has l.calls) (Has l.fn.calls) × HasSome (HasAtHome l.run) (take l.index l.all) l.path.items × HasSome (Has l.calls) (take l.index l.all) l.path.items
