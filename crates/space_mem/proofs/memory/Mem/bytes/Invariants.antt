use Rattle.std.proofs.Common.{◌≡◌, ◌-◌, ◌≤◌}
use Rattle.memory_model.specs.Memory.{bytes_from}
use Rattle.space_mem.proofs.memory.Mem.bytes.Given as goal

abbrev pub invariant-loop-done : goal.invariant-loop-done
invariant-loop-done l = record { in_range : l.done ≤ l.count; bytes : l.bytes.items ≡ bytes_from l.self.memory l.at l.done }

abbrev pub decreases-loop-done : goal.decreases-loop-done
decreases-loop-done l = l.count - l.done
