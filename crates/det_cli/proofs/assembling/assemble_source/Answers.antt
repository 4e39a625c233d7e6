use Rattle.std.proofs.Common.{◌≡◌, [], Ok, refl, ap, lit<}
use Rattle.image_model.specs.Image.{image_bytes}
use Rattle.command_line.specs.Line.{asm}
use Rattle.det_cli.specs.Commands.{expectation_of_bytes, expectation_of_source, image_of_source, source_step, whole_of}
use Rattle.det_cli.specs.declared.formats.Assembled.{Assembled}
use Rattle.det_cli.proofs.Courses.{stopped_course, written_course}
use Rattle.det_cli.proofs.Stages.{file_stopped, last_read}
use Rattle.det_cli.proofs.assembling.assemble_source.Goals as goal

pub returns-in-Ok-clause-course : goal.returns-in-Ok-clause-course
returns-in-Ok-clause-course g c =
    written_course (λ (made : Assembled). expectation_of_bytes (image_bytes made.image)) (asm c.args.source.now) _ _ _ c.in-Ok.made _
    (last_read (λ bytes (made : Assembled). image_of_source bytes ≡ Ok made.image) (λ (made : Assembled). expectation_of_bytes (image_bytes made.image)) (source_step c.args.source.now) (whole_of (asm c.args.source.now)) _ _ _
    c.in-Ok.ensures.file (λ bytes is. ap expectation_of_source is) (lit< tt))
    (c.write_made.ensures.writes _ (refl, refl))

pub returns-in-Err-clause-course : goal.returns-in-Err-clause-course
returns-in-Err-clause-course g c =
    stopped_course (λ (made : Assembled). expectation_of_bytes (image_bytes made.image)) (asm c.args.source.now) _ _ _ _ (refl, refl) (refl, refl)
    (file_stopped (λ bytes (made : Assembled). image_of_source bytes ≡ Ok made.image) (λ (made : Assembled). expectation_of_bytes (image_bytes made.image)) (source_step c.args.source.now) [] (whole_of (asm c.args.source.now)) _ _
    c.in-Err.ensures.file)
