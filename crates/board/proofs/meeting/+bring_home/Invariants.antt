use Rattle.std.proofs.Common.{length}
use Rattle.board.proofs.meeting.+bring_home.Given as goal

abbrev pub decreases-bring_home : goal.decreases-bring_home
decreases-bring_home l = length l.away.now
