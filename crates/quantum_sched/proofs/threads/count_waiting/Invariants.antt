use Rattle.std.proofs.Common.{◌≡◌, ◌+◌, ◌-◌, ◌≤◌}
use Rattle.space_model.specs.Quanta.{count_waiting}
use Rattle.quantum_model.specs.Rows.{threads_in}
use Rattle.quantum_sched.proofs.threads.count_waiting.Given as goal

abbrev pub invariant-loop-done : goal.invariant-loop-done
invariant-loop-done l = record {
  counted : l.waiting + count_waiting (threads_in (l.fn.first + l.done) (l.fn.count - l.done) l.children) ≡ count_waiting (threads_in l.fn.first l.fn.count l.children);
  few : l.waiting ≤ l.done;
}
