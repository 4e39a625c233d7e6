use Rattle.std.proofs.Common.{◌+◌, ◌*◌, length}
use Rattle.explain_core.proofs.turning.+stretch_at.Given as goal

abbrev pub decreases-stretch_at : goal.decreases-stretch_at
decreases-stretch_at l = 2 * length l.path.now

abbrev pub decreases-stretch_below : goal.decreases-stretch_below
decreases-stretch_below l = 2 * length l.rest.now + 1
