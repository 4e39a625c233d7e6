use Rattle.std.proofs.Common.{◌≡◌, ◌-◌}
use Rattle.file_model.specs.Slots.{slots_from, slots_of}
use Rattle.file_model.specs.Operations.{free_from, lowest_free}
use Rattle.file_image.proofs.lookup.lowest_free.Given as goal

abbrev pub invariant-loop-slot : goal.invariant-loop-slot
invariant-loop-slot g l =
    let b = g.B.FileBytes.bytes l.bytes in
    lowest_free (slots_of b) ≡ free_from l.slot (slots_from b l.slot (64 - l.slot))
