use Rattle.elf_image.proofs.segments.segments_of.Goals as goal

pub segment_of-requires : goal.segment_of-requires
segment_of-requires c = c.requires c.loop-run.run-index _ c.loop-run-test.true
