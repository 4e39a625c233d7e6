use Rattle.std.proofs.Common.{arith}
use Rattle.space_tree.proofs.Words.{registers_read}
use Rattle.space_tree.proofs.registers.read_registers.Goals as goal

pub returns : goal.returns
returns c =
    let kept = c.loop-number.invariant in
    registers_read c.args.memory.now.memory c.args.at c.loop-number.registers kept.pc kept.length kept.zero (λ k low high. kept.words k low (omega arith))
