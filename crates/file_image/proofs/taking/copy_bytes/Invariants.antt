use Rattle.std.proofs.Common.{◌≡◌, ℕ, ◌+◌, ◌-◌, ◌*◌, ◌≤◌, take, true}
use Rattle.file_model.specs.Slots.{with_bytes, bytes_from}
use Rattle.file_image.proofs.taking.copy_bytes.Given as goal

abbrev pub invariant-loop-done : goal.invariant-loop-done
invariant-loop-done g l = record {
  in_range : l.done ≤ l.count;
  bytes : (a : ℕ) → g.P.FileBytes.bytes l.parent a ≡ with_bytes (g.P.FileBytes.bytes l.fn.parent) (65536 * l.slot + l.offset) (take l.done (bytes_from (g.C.FileBytes.bytes l.child) l.from l.count)) a;
  ready : g.P.FileBytes.is_ready l.parent l.slot ≡ true;
  beyond : 4096 + g.P.FileBytes.spared l.parent l.slot ≤ l.offset;
  kept : g.P.FileBytes.keeps l.fn.parent l.parent;
}

abbrev pub decreases-loop-done : goal.decreases-loop-done
decreases-loop-done g l = l.count - l.done
