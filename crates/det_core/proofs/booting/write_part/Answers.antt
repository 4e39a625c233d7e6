use Rattle.det_core.proofs.Zeros.{zeros_are_there}
use Rattle.det_core.proofs.booting.write_part.Goals as goal

pub returns-then-are_zero : goal.returns-then-are_zero
returns-then-are_zero c = zeros_are_there c.args.memory.now.memory c.args.at c.args.part.now c.requires.empty (c.are_zero.ensures c.if-are_zero.true)
