use Rattle.std.proofs.Common.{◌+◌, ◌-◌, ◌*◌, length}
use Rattle.explain_core.proofs.choosing.+busy.Given as goal

abbrev pub decreases-busy_child : goal.decreases-busy_child
decreases-busy_child l = 4 * (8 - length l.path.now.items)

abbrev pub decreases-busy_from : goal.decreases-busy_from
decreases-busy_from l = 4 * (8 - length l.path.now.items) + 1

abbrev pub decreases-goes_on_at : goal.decreases-goes_on_at
decreases-goes_on_at l = 4 * (8 - length l.path.now.items) + 1

abbrev pub decreases-busy_below : goal.decreases-busy_below
decreases-busy_below l = 4 * (8 - length l.path.now.items) + 2

abbrev pub decreases-busy_at : goal.decreases-busy_at
decreases-busy_at l = 4 * (8 - length l.path.now.items) + 3
