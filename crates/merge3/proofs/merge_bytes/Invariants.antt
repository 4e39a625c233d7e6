use Rattle.std.proofs.Common.{◌*◌}
use Rattle.merge3.specs.Bytes.{IsMergeBelow}
use Rattle.merge3.proofs.merge_bytes.Given as goal

abbrev pub invariant-loop-group : goal.invariant-loop-group
invariant-loop-group l = IsMergeBelow l.snapshot l.child l.parent l.out (64 * l.group)
