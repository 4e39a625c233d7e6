use Rattle.std.proofs.Common.{◌≡◌, ◌-◌, ◌≤◌, length, take}
use Rattle.file_model.specs.Slots.{bytes_from}
use Rattle.file_image.proofs.reading.read_bytes.Given as goal

abbrev pub invariant-loop-done : goal.invariant-loop-done
invariant-loop-done g l = record {
  in_range : l.done ≤ length l.fn.out;
  bytes : take l.done l.out ≡ bytes_from (g.B.FileBytes.bytes l.bytes) l.at l.done;
}

abbrev pub decreases-loop-done : goal.decreases-loop-done
decreases-loop-done g l = length l.fn.out - l.done
