use Rattle.std.proofs.Common.{◌≡◌, ◌+◌, ◌-◌, ◌++◌}
use Rattle.quantum_model.specs.Rows.{threads_in}
use Rattle.quantum_sched.specs.Rows.{starts_of}
use Rattle.quantum_sched.proofs.start.prepare_row.Given as goal

abbrev pub invariant-loop-done : goal.invariant-loop-done
invariant-loop-done l = record {
  listed : l.prepared.items ++ starts_of l.caller.memory (threads_in (l.fn.first + l.done) (l.fn.count - l.done) l.fn.children) ≡ starts_of l.caller.memory (threads_in l.fn.first l.fn.count l.fn.children);
  same : l.children ≡ l.fn.children;
}
