use Rattle.std.proofs.Common.{◌+◌, ◌*◌, length}
use Rattle.explain_core.proofs.walking.+way_stopped.Given as goal

abbrev pub decreases-way_stopped : goal.decreases-way_stopped
decreases-way_stopped l = 2 * length l.path.now

abbrev pub decreases-below_stopped : goal.decreases-below_stopped
decreases-below_stopped l = 2 * length l.rest.now + 1
