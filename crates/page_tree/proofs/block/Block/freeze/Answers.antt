use Rattle.std.proofs.Common.{arith}
use Rattle.page_tree.proofs.block.Block.freeze.Goals as goal

pub returns-clause-none : goal.returns-clause-none
returns-clause-none c j below = c.loop-j.invariant.none j (omega (arith, c.loop-j-test.false))
