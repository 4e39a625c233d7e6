use Rattle.std.proofs.Common.{ap}
use Rattle.memory_model.specs.Memory.{no_memory}
use Rattle.run_model.specs.Boot.{with_segments}
use Rattle.space_mem.specs.Held.{Held}
use Rattle.image_file.specs.View.{segment_view, segment_views}
use Rattle.det_core.proofs.Loading.{next_init, next_step}
use Rattle.det_core.proofs.booting.load.Goals as goal

pub loop-segment-init : goal.loop-segment-init
loop-segment-init c = next_init c.new-memory.result.memory (segment_views c.segments-segment-items.result.now) c.args.image.now.segments (ap (λ (h : Held). h.memory) c.new-memory.ensures) c.segments-segment-items.ensures.all c.segments-segment-items.ensures.sound.segments

pub loop-segment-preserved : goal.loop-segment-preserved
loop-segment-preserved c =
    rw (c.in_ok-write_segment.ensures, c.segment-item.is) (next_step segment_view c.loop-segment.memory.memory c.segments-segment-items.result.now c.loop-segment.segment-index _ (with_segments no_memory c.args.image.now.segments) c.loop-segment-test.true c.loop-segment.invariant).0
