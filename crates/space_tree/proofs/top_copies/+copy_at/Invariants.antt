use Rattle.std.proofs.Common.{◌+◌, ◌*◌, length}
use Rattle.space_tree.proofs.top_copies.+copy_at.Given as goal

abbrev pub decreases-copy_at : goal.decreases-copy_at
decreases-copy_at l = 2 * length l.path.now

abbrev pub decreases-copy_below : goal.decreases-copy_below
decreases-copy_below l = 2 * length l.rest.now + 1
