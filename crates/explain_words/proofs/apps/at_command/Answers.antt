use Rattle.std.proofs.lemmas.Result.{IfOk-weaker}
use Rattle.command_line.proofs.AppLemmas.{arg_added}
use Rattle.explain_words.specs.Line.{at_app}
use Rattle.explain_words.proofs.apps.at_command.Goals as goal

pub returns : goal.returns
unfolding at_app
returns c =
    let one = arg_added _ _ _ _ _ c.in_ok-arg.ensures c.in_ok-run_command.ensures c.option.ensures in
    IfOk-weaker c.arg-2.result _ _ (λ r adds. arg_added _ r _ _ _ adds one c.required_argument.ensures) c.arg-2.ensures
