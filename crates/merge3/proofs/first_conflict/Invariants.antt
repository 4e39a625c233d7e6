use Rattle.std.proofs.Common.{◌*◌}
use Rattle.merge3.specs.Bytes.{NoneInConflict}
use Rattle.merge3.proofs.first_conflict.Given as goal

abbrev pub invariant-loop-group : goal.invariant-loop-group
invariant-loop-group l = NoneInConflict l.agree l.snapshot l.child l.parent (64 * l.group)
