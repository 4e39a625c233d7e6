use Rattle.std.proofs.Common.{◌≡◌, ◌+◌, ◌-◌, ◌<◌, ◌≤◌, ℕ, true}
use Rattle.memory_model.specs.Memory.{may_write}
use Rattle.space_mem.proofs.memory.Mem.first_unwritable.Given as goal

abbrev pub invariant-loop-done : goal.invariant-loop-done
invariant-loop-done l = record {
  in_range : l.done ≤ l.count;
  all : (k : ℕ) → k < l.done → may_write l.self.memory (l.at + k) ≡ true;
}

abbrev pub decreases-loop-done : goal.decreases-loop-done
decreases-loop-done l = l.count - l.done
