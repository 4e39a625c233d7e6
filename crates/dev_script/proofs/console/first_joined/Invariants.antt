use Rattle.std.proofs.Common.{◌≤◌, length}
use Rattle.dev_script.proofs.console.first_joined.Given as goal

abbrev pub invariant-loop-from : goal.invariant-loop-from
invariant-loop-from l = l.from ≤ length l.pieces

abbrev pub decreases-loop-from : goal.decreases-loop-from
decreases-loop-from l = l.from
