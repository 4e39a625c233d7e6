use Rattle.std.proofs.Common.{length}
use Rattle.space_tree.proofs.path.+put.Given as goal

abbrev pub decreases-put : goal.decreases-put
decreases-put l = length l.path.now
