use Rattle.std.proofs.Common.{refl, ap}
use Rattle.command_line.specs.Line.{line_of}
use Rattle.det_cli.proofs.Courses.{same_course}
use Rattle.det_cli.proofs.main_call.carry_out.Goals as goal

pub returns-in-Bench-clause-course : goal.returns-in-Bench-clause-course
returns-in-Bench-clause-course g c =
    same_course _ _ _ _ _ _ (ap line_of c.in-Bench.is) (c.bench.ensures.course _ (refl, refl))
