use Rattle.std.proofs.Common.{◌≡◌, ◌≤◌, ◌-◌, map}
use Rattle.file_model.specs.Slots.{slots_from}
use Rattle.file_model.specs.Reconcile.{is_used, bits_of}
use Rattle.file_image.proofs.lookup.used.Given as goal

abbrev pub invariant-loop-slot : goal.invariant-loop-slot
invariant-loop-slot g l = record {
  within : l.slot ≤ 64;
  bits : l.bits ≡ bits_of (map is_used (slots_from (g.B.FileBytes.bytes l.bytes) l.slot (64 - l.slot)));
}

abbrev pub decreases-loop-slot : goal.decreases-loop-slot
decreases-loop-slot g l = l.slot
