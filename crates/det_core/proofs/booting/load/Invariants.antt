use Rattle.std.proofs.Common.{drop}
use Rattle.memory_model.specs.Memory.{no_memory}
use Rattle.run_model.specs.Boot.{with_segments}
use Rattle.image_file.specs.View.{segment_views}
use Rattle.det_core.proofs.Loading.{Next}
use Rattle.det_core.proofs.booting.load.Given as goal

abbrev pub invariant-loop-segment : goal.invariant-loop-segment
invariant-loop-segment l = Next l.memory.memory (segment_views (drop l.segment-index l.segment-items)) (with_segments no_memory l.image.segments)
