use Rattle.std.proofs.Common.{◌≡◌}
use Rattle.space_mem.specs.Held.{Marks}
use Rattle.quantum_sched.specs.Rows.{OwnsRow}
use Rattle.quantum_sched.proofs.commit.own_row.Given as goal

abbrev pub invariant-loop-done : goal.invariant-loop-done
invariant-loop-done l = record {
  same : l.caller.memory ≡ l.fn.caller.memory;
  owned : OwnsRow l.caller l.fn.first l.done l.children;
  marks : Marks l.fn.caller l.caller;
}
