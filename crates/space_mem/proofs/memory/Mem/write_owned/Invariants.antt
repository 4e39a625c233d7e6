use Rattle.std.proofs.Common.{◌≡◌, ◌≤◌, ◌-◌, take, length}
use Rattle.memory_model.specs.Memory.{with_bytes}
use Rattle.space_mem.specs.Held.{Marks}
use Rattle.space_mem.proofs.memory.Mem.write_owned.Given as goal

abbrev pub invariant-loop-done : goal.invariant-loop-done
invariant-loop-done l = record {
  in_range : l.done ≤ length l.bytes;
  held : l.self ≡ record l.fn.self { memory = with_bytes l.fn.self.memory l.at (take l.done l.bytes) };
  marks : Marks l.fn.self l.self;
}

abbrev pub decreases-loop-done : goal.decreases-loop-done
decreases-loop-done l = length l.bytes - l.done
