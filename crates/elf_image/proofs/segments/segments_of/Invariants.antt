use Rattle.std.proofs.Common.{◌≡◌, map, take}
use Rattle.image_file.specs.View.{segment_views}
use Rattle.elf_model.specs.Pages as pages
use Rattle.elf_image.specs.View.{load_views, run_views}
use Rattle.elf_image.proofs.segments.segments_of.Given as goal

abbrev pub invariant-loop-run : goal.invariant-loop-run
invariant-loop-run l = segment_views l.segments.items ≡ map (pages.segment_of (load_views l.loads)) (run_views (take l.run-index l.runs))
