use Rattle.std.proofs.Common.{◌≡◌, ◌+◌, ◌-◌}
use Rattle.space_mem.specs.Held.{Marks}
use Rattle.space_model.specs.Commit.{commits}
use Rattle.space_model.specs.Quanta.{writings}
use Rattle.quantum_model.specs.Rows.{threads_in}
use Rattle.quantum_sched.specs.Rows.{OwnsRow}
use Rattle.quantum_sched.proofs.commit.commit_each.Given as goal

abbrev pub invariant-loop-done : goal.invariant-loop-done
invariant-loop-done l = record {
  committed : commits l.caller.memory (writings (threads_in (l.fn.first + l.done) (l.fn.count - l.done) l.children)) ≡ commits l.fn.caller.memory (writings (threads_in l.fn.first l.fn.count l.children));
  owned : OwnsRow l.caller l.fn.first l.fn.count l.children;
  marks : Marks l.fn.caller l.caller;
}
