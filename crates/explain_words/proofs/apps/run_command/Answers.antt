use Rattle.std.proofs.lemmas.Result.{IfOk-weaker}
use Rattle.clap.specs.Words.{new_app}
use Rattle.command_line.proofs.AppLemmas.{arg_added}
use Rattle.explain_words.specs.Line.{run_app}
use Rattle.explain_words.proofs.apps.run_command.Goals as goal

pub returns : goal.returns
unfolding run_app
returns c =
    let one = arg_added _ _ (new_app c.args.name.now) _ _ c.in_ok-arg.ensures (c.new.ensures.app, c.new.ensures.local) c.fuel_argument.ensures in
    let two = arg_added _ _ _ _ _ c.in_ok-arg-2.ensures one c.flag.ensures in
    let three = arg_added _ _ _ _ _ c.in_ok-arg-3.ensures two c.option.ensures in
    let four = arg_added _ _ _ _ _ c.in_ok-arg-4.ensures three c.required_argument.ensures in
    IfOk-weaker c.arg-5.result _ _ (λ r adds. arg_added _ r _ _ _ adds four c.required_argument-2.ensures) c.arg-5.ensures
