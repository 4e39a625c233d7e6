use Rattle.path_set.specs.Paths.{Has}
use Rattle.board.specs.Listed.{HasAll}
use Rattle.board.proofs.Ways.{HasShorter}
use Rattle.board.proofs.listing.put_way.Given as goal

abbrev pub invariant-loop-length : goal.invariant-loop-length
invariant-loop-length l =
    HasAll (Has l.paths) (Has l.fn.paths) × HasShorter (Has l.paths) l.path.items l.length
