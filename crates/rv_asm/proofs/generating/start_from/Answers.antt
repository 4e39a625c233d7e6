use Rattle.std.proofs.Common.{◌/◌, arith}
use Rattle.std.specs.Int.Bits.{or_step, or_zero_r}
use Rattle.rv_asm.proofs.generating.start_from.Goals as goal

pub returns : goal.returns
returns c = omega (arith, or_step c.args.number 1, or_zero_r (c.args.number / 2))
