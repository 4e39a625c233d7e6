use Rattle.std.proofs.Common.{codes}
use Rattle.std.proofs.lemmas.Result.{IfOk-weaker}
use Rattle.clap.specs.Words.{new_app}
use Rattle.command_line.proofs.AppLemmas.{arg_added}
use Rattle.command_line.specs.Line.{run_app}
use Rattle.command_line.proofs.apps.run_command.Goals as goal

pub returns : goal.returns
unfolding run_app
returns c =
    let one = IfOk-weaker c.arg-run.result _ _ (λ r adds. arg_added _ r (new_app (codes "run")) _ _ adds (c.new.ensures.app, c.new.ensures.local) c.engine_argument.ensures) c.arg-run.ensures in
    let two = c.with_arg-run.ensures _ _ one c.workers_argument.ensures in
    let three = c.with_arg-run-2.ensures _ _ two c.nodes_argument.ensures in
    let four = c.with_arg-run-3.ensures _ _ three c.link_argument.ensures in
    let five = c.with_arg-run-4.ensures _ _ four c.fuel_argument.ensures in
    let six = c.with_arg-run-5.ensures _ _ five c.flag.ensures in
    let seven = c.with_arg-run-6.ensures _ _ six c.required_argument.ensures in
    c.with_arg.ensures _ _ seven c.required_argument-2.ensures
