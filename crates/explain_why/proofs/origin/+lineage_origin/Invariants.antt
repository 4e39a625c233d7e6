use Rattle.std.proofs.Common.{length}
use Rattle.explain_why.proofs.origin.+lineage_origin.Given as goal

abbrev pub decreases-lineage_origin : goal.decreases-lineage_origin
decreases-lineage_origin l = length l.lineage.now
