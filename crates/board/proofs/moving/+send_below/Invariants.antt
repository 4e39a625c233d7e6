use Rattle.std.proofs.Common.{length}
use Rattle.board.proofs.moving.+send_below.Given as goal

abbrev pub decreases-send_below : goal.decreases-send_below
decreases-send_below l = length l.path.now
