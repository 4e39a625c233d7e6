use Rattle.std.proofs.Common.{arith}
use Rattle.rv_exec.proofs.Registers.{zero_stays}
use Rattle.rv_exec.proofs.regs.RegisterFile.set_register.Goals as goal

pub returns : goal.returns
returns c = rw c.self.view_is (rw c.self.view_is at (zero_stays c.self.inside.x c.args.number c.args.value (omega arith) c.self.invariant))
