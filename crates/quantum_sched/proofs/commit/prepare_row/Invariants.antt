use Rattle.std.proofs.Common.{◌≡◌, ◌+◌, ◌-◌, ◌++◌}
use Rattle.quantum_model.specs.Rows.{threads_in}
use Rattle.quantum_sched.specs.Rows.{renewals_of}
use Rattle.quantum_sched.proofs.commit.prepare_row.Given as goal

abbrev pub invariant-loop-done : goal.invariant-loop-done
invariant-loop-done l = record {
  listed : l.prepared.items ++ renewals_of (threads_in (l.fn.first + l.done) (l.fn.count - l.done) l.fn.children) ≡ renewals_of (threads_in l.fn.first l.fn.count l.fn.children);
  same : l.children ≡ l.fn.children;
}
