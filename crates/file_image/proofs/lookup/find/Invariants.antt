use Rattle.std.proofs.Common.{◌≡◌, ◌-◌}
use Rattle.file_model.specs.Slots.{slots_from, slots_of}
use Rattle.file_model.specs.Operations.{entry_from, entry_of}
use Rattle.file_image.proofs.lookup.find.Given as goal

abbrev pub invariant-loop-slot : goal.invariant-loop-slot
invariant-loop-slot g l =
    let b = g.B.FileBytes.bytes l.bytes in
    entry_of (slots_of b) l.name ≡ entry_from l.slot (slots_from b l.slot (64 - l.slot)) l.name
