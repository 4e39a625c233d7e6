use Rattle.std.proofs.Common.{length}
use Rattle.explain_core.proofs.choosing.+on_the_way.Given as goal

abbrev pub decreases-on_the_way : goal.decreases-on_the_way
decreases-on_the_way l = length l.way.now
