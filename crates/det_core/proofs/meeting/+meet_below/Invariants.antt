use Rattle.std.proofs.Common.{length}
use Rattle.det_core.proofs.meeting.+meet_below.Given as goal

abbrev pub decreases-meet_below : goal.decreases-meet_below
decreases-meet_below l = length l.path.now
