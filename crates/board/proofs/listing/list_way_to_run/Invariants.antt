use Rattle.std.proofs.Common.{◌≡◌}
use Rattle.board.specs.Runs.{HasAllLists, HasRun}
use Rattle.board.proofs.Ways.{HasShorter}
use Rattle.board.proofs.listing.list_way_to_run.Given as goal

abbrev pub invariant-loop-length : goal.invariant-loop-length
invariant-loop-length l =
    (l.run.places ≡ l.fn.run.places) × HasAllLists l.run l.fn.run × HasShorter (HasRun l.run) l.path.items l.length
