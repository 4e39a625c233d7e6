use Rattle.std.proofs.Common.{Some, refl, lit<}
use Rattle.command_line.specs.Line.{bench, engine_of}
use Rattle.det_cli.specs.Commands.{expectation_of_bench}
use Rattle.det_cli.proofs.Courses.{stopped_course, written_course}
use Rattle.det_cli.proofs.benching.bench.Goals as goal

pub returns-in-Ok-clause-course : goal.returns-in-Ok-clause-course
returns-in-Ok-clause-course g c err untouched =
    let e = expectation_of_bench c.args.seed in
    written_course (λ plan. e) (bench (engine_of c.args.engine) c.args.seed) _ _ _ c.in-Ok.plan _
    (c.in-Ok.ensures.reads (λ files. Some e) e (λ rest. refl) (lit< tt)) (c.sum_up.ensures.writes err untouched)

pub returns-in-Err-clause-course : goal.returns-in-Err-clause-course
returns-in-Err-clause-course g c err untouched =
    let e = expectation_of_bench c.args.seed in
    stopped_course (λ plan. e) (bench (engine_of c.args.engine) c.args.seed) _ _ _ _ (refl, refl) untouched (c.in-Err.ensures.reads (λ files. Some e) e (λ rest. refl) (lit< tt))
