use Rattle.std.proofs.Common.{arith, ◌∙◌}
use Rattle.std.proofs.lemmas.Bool.Decides.{nat_tests}
use Rattle.rv_exec.specs.Flat.{meaning}
use Rattle.explain_core.proofs.Leaving.{leaves_register}
use Rattle.explain_core.proofs.watch.RegisterWatchWatch.may_change.Goals as goal

pub returns-clause-leaves : goal.returns-clause-leaves
returns-clause-leaves c not = leaves_register c.args.self.number (meaning c.args.instruction.now) c.args._x.now (λ is. let same = c.result_register.ensures ∙ is in grind (arith, nat_tests, not, same))
