use Rattle.std.proofs.Common.{◌≡◌, ℕ, ◌+◌, ◌≤◌, ◌/◌, ◌%◌, take, true}
use Rattle.file_model.specs.Sizes.{slot_size, content_offset}
use Rattle.file_model.specs.Slots.{with_bytes}
use Rattle.file_image.proofs.file_bytes.FileBytes.write_run.Given as goal

abbrev pub invariant-loop-i : goal.invariant-loop-i
invariant-loop-i g l = record {
  bytes : (a : ℕ) → g.Self.FileBytes.bytes l.self a ≡ with_bytes (g.Self.FileBytes.bytes l.fn.self) l.offset (take l.i l.run) a;
  header : g.Self.FileBytes.has_header l.self (l.offset / slot_size) ≡ true;
  content : content_offset ≤ l.offset % slot_size → g.Self.FileBytes.is_ready l.self (l.offset / slot_size) ≡ true;
  beyond : content_offset ≤ l.offset % slot_size → content_offset + g.Self.FileBytes.spared l.self (l.offset / slot_size) ≤ l.offset % slot_size;
  kept : g.Self.FileBytes.keeps l.fn.self l.self;
}
