use Rattle.std.proofs.Common.{◌+◌, ◌*◌, length}
use Rattle.explain_core.proofs.watch_list.+watched_from.Given as goal

abbrev pub decreases-watched_from : goal.decreases-watched_from
decreases-watched_from l = 2 * length l.rest.now

abbrev pub decreases-watched_below : goal.decreases-watched_below
decreases-watched_below l = 2 * length l.rest.now + 1
