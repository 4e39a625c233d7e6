use Rattle.std.proofs.Common.{length}
use Rattle.space_tree.proofs.path.+swap.Given as goal

abbrev pub decreases-swap : goal.decreases-swap
decreases-swap l = length l.path.now
