use Rattle.std.proofs.Common.{codes}
use Rattle.std.proofs.lemmas.Result.{IfOk-weaker}
use Rattle.clap.specs.Words.{new_app}
use Rattle.command_line.proofs.AppLemmas.{arg_added}
use Rattle.command_line.specs.Line.{walk_app}
use Rattle.command_line.proofs.apps.walk_command.Goals as goal

pub returns : goal.returns
unfolding walk_app
returns c =
    let one = IfOk-weaker c.arg-walk.result _ _ (λ r adds. arg_added _ r (new_app (codes "walk")) _ _ adds (c.new.ensures.app, c.new.ensures.local) c.fuel_argument.ensures) c.arg-walk.ensures in
    let two = c.with_arg-walk.ensures _ _ one c.required_argument.ensures in
    let three = c.with_arg-walk-2.ensures _ _ two c.required_argument-2.ensures in
    c.with_arg.ensures _ _ three c.required_argument-3.ensures
