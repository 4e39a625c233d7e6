use Rattle.std.proofs.Common.{refl}
use Rattle.explain_words.specs.Line.{line_of}
use Rattle.explain_cli.proofs.Courses.{explained_course, stopped_course}
use Rattle.explain_cli.proofs.main_call.carry_out.Goals as goal

pub returns-in-Ok-clause-course : goal.returns-in-Ok-clause-course
returns-in-Ok-clause-course g c = explained_course (line_of c.args.command.now) _ _ c.in-Ok.loaded _ c.in-Ok.ensures.reads c.explain_run.ensures.explains

pub returns-in-Err-clause-course : goal.returns-in-Err-clause-course
returns-in-Err-clause-course g c = stopped_course (line_of c.args.command.now) _ _ _ (refl, refl) c.in-Err.ensures.reads
