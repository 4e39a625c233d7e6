use Rattle.std.proofs.Common.{subst}
use Rattle.std.proofs.lemmas.Result.{IfOk-weaker}
use Rattle.command_line.proofs.AppLemmas.{subcommand_added}
use Rattle.command_line.specs.Line.{IsApp}
use Rattle.std.specs.Prelude.{IfOk}
use Rattle.command_line.proofs.apps.with_command.Goals as goal

pub returns-in-Ok : goal.returns-in-Ok
returns-in-Ok c a s is below =
    IfOk-weaker c.subcommand.result _ _ (λ r adds. subcommand_added _ _ r a s adds is (subst (λ r. IfOk r (λ c. IsApp c s)) c.in-Ok.is below)) c.subcommand.ensures
