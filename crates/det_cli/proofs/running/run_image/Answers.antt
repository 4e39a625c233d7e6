use Rattle.std.proofs.Common.{refl}
use Rattle.command_line.specs.Line.{run, run_of}
use Rattle.det_cli.specs.Commands.{run_shows}
use Rattle.det_cli.proofs.Courses.{stopped_course, written_course}
use Rattle.det_cli.proofs.running.run_image.Goals as goal

pub returns-in-Ok-clause-course : goal.returns-in-Ok-clause-course
returns-in-Ok-clause-course g c =
    written_course (λ x. run_shows c.args.run.now.fuel c.args.run.now.digest x.0 x.1) (run (run_of c.args.run.now)) _ _ _ (c.in-Ok.image, c.in-Ok.devices, c.in-Ok.plan) _
    c.in-Ok.ensures.reads c.settle_and_write.ensures.writes

pub returns-in-Err-clause-course : goal.returns-in-Err-clause-course
returns-in-Err-clause-course g c =
    stopped_course (λ x. run_shows c.args.run.now.fuel c.args.run.now.digest x.0 x.1) (run (run_of c.args.run.now)) _ _ _ _ (refl, refl) (refl, refl) c.in-Err.ensures.reads
