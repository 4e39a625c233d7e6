use Rattle.std.proofs.Common.{◌≡◌, ◌++◌, length, take}
use Rattle.std.specs.Int.{w16, w32, to_le_bytes}
use Rattle.std.specs.List.{flat_map}
use Rattle.image_model.specs.Image.{mark, segment_bytes}
use Rattle.image_file.specs.View.{segment_views}
use Rattle.image_file.proofs.writing.write_image.Given as goal

abbrev pub invariant-loop-segment : goal.invariant-loop-segment
invariant-loop-segment l = l.out.items ≡ mark l.format ++ (to_le_bytes w32 l.image.entry ++ (to_le_bytes w32 l.image.stack ++ (to_le_bytes w16 (length l.segments) ++ flat_map (segment_bytes l.format) (segment_views (take l.segment-index l.segments)))))
