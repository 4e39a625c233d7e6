use Rattle.std.proofs.Common.{◌-◌, length}
use Rattle.explain_why.proofs.origin.+origin_of.Given as goal

-- the levels below the path
abbrev pub decreases-origin_of : goal.decreases-origin_of
decreases-origin_of l = 8 - length l.sought.now.path.items
