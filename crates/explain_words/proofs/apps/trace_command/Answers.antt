use Rattle.std.proofs.lemmas.Result.{IfOk-weaker}
use Rattle.command_line.proofs.AppLemmas.{arg_added}
use Rattle.explain_words.specs.Line.{trace_app}
use Rattle.explain_words.proofs.apps.trace_command.Goals as goal

pub returns : goal.returns
unfolding trace_app
returns c =
    let one = arg_added _ _ _ _ _ c.in_ok-arg.ensures c.in_ok-run_command.ensures c.required_argument.ensures in
    let two = arg_added _ _ _ _ _ c.in_ok-arg-2.ensures one c.required_argument-2.ensures in
    IfOk-weaker c.arg-3.result _ _ (λ r adds. arg_added _ r _ _ _ adds two c.required_argument-3.ensures) c.arg-3.ensures
