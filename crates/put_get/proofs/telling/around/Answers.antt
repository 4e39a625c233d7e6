use Rattle.std.proofs.Common.{arith}
use Rattle.put_get.proofs.telling.around.Goals as goal

pub returns-clause-to : goal.returns-clause-to
returns-clause-to c = omega (arith, c.block_pages-block.ensures.before 135 (omega arith), c.min-first.ensures, c.max-end.ensures)
