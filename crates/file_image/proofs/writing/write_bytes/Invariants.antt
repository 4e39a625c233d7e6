use Rattle.std.proofs.Common.{◌≡◌, ℕ, ◌+◌, ◌-◌, ◌<◌, ◌≤◌, length, take, true}
use Rattle.file_model.specs.Slots.{with_bytes}
use Rattle.file_image.proofs.writing.write_bytes.Given as goal

abbrev pub invariant-loop-done : goal.invariant-loop-done
invariant-loop-done g l = record {
  in_range : l.done ≤ length l.part;
  bytes : (a : ℕ) → g.B.FileBytes.bytes l.bytes a ≡ with_bytes (g.B.FileBytes.bytes l.fn.bytes) l.start (take l.done l.part) a;
  ready : g.B.FileBytes.has_header l.bytes l.slot ≡ true;
  content : 4096 < l.offset + length l.part → g.B.FileBytes.is_ready l.bytes l.slot ≡ true;
  beyond : 4096 < l.offset + length l.part → 4096 + g.B.FileBytes.spared l.bytes l.slot ≤ l.offset;
  kept : g.B.FileBytes.keeps l.fn.bytes l.bytes;
}

abbrev pub decreases-loop-done : goal.decreases-loop-done
decreases-loop-done g l = length l.part - l.done
