use Rattle.std.proofs.Common.{subst}
use Rattle.std.proofs.lemmas.Result.{IfOk-weaker}
use Rattle.command_line.proofs.AppLemmas.{arg_added}
use Rattle.command_line.specs.Line.{IsApp}
use Rattle.std.specs.Prelude.{IfOk}
use Rattle.command_line.proofs.apps.with_arg.Goals as goal

pub returns-in-Ok : goal.returns-in-Ok
returns-in-Ok c a r is rule =
    IfOk-weaker c.arg.result _ _ (λ n adds. arg_added _ n a _ r adds (subst (λ x. IfOk x (λ c. IsApp c a)) c.in-Ok.is is) rule) c.arg.ensures
