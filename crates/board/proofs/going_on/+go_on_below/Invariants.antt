use Rattle.std.proofs.Common.{length}
use Rattle.board.proofs.going_on.+go_on_below.Given as goal

abbrev pub decreases-go_on_below : goal.decreases-go_on_below
decreases-go_on_below l = length l.path.now
