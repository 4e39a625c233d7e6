use Rattle.std.proofs.Common.{codes}
use Rattle.std.proofs.lemmas.Result.{IfOk-weaker}
use Rattle.clap.specs.Words.{new_app}
use Rattle.command_line.proofs.AppLemmas.{arg_added}
use Rattle.command_line.specs.Line.{bench_app}
use Rattle.command_line.proofs.apps.bench_command.Goals as goal

pub returns : goal.returns
unfolding bench_app
returns c =
    let one = IfOk-weaker c.arg-bench.result _ _ (λ r adds. arg_added _ r (new_app (codes "bench")) _ _ adds (c.new.ensures.app, c.new.ensures.local) c.engine_argument.ensures) c.arg-bench.ensures in
    let two = c.with_arg-bench.ensures _ _ one c.workers_argument.ensures in
    let three = c.with_arg-bench-2.ensures _ _ two c.nodes_argument.ensures in
    let four = c.with_arg-bench-3.ensures _ _ three c.link_argument.ensures in
    c.with_arg.ensures _ _ four c.seed_argument.ensures
