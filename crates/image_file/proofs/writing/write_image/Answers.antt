use Rattle.std.proofs.Common.{sym, subst, arith}
use Rattle.std.proofs.lemmas.Grind.{common_steps}
use Rattle.image_model.specs.Image.{AreSegments, format_of}
use Rattle.image_model.proofs.Formats.{has_format_of}
use Rattle.image_file.specs.View.{segment_views}
use Rattle.image_file.proofs.Found.{are_short}
use Rattle.image_file.proofs.writing.write_image.Goals as goal

pub put_segment-requires : goal.put_segment-requires
put_segment-requires c =
    let ss = c.segments-segments.result.now in
    let sound : AreSegments 0 (segment_views ss) = subst (AreSegments 0) (sym c.segments-segments.ensures.all) c.segments-segments.ensures.sound.segments in
    rw c.segment-item.is (are_short ss sound c.loop-segment.segment-index _ c.loop-segment-test.true)

pub returns-clause-spelled : goal.returns-clause-spelled
returns-clause-spelled c = record { sound = c.segments-segments.ensures.sound; format = format_of c.args.image.now; permissions = has_format_of c.args.image.now; spelled = grind (arith, common_steps) }
