use Rattle.std.proofs.Common.{◌*◌}
use Rattle.merge3.specs.Bytes.{SameFrom}
use Rattle.merge3.proofs.same_page.Given as goal

abbrev pub invariant-loop-group : goal.invariant-loop-group
invariant-loop-group l = SameFrom l.a l.b 0 (64 * l.group)
