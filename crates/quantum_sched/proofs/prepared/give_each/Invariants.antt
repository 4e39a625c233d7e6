use Rattle.std.proofs.Common.{◌≡◌}
use Rattle.quantum_sched.specs.Rows.{with_each}
use Rattle.quantum_sched.proofs.prepared.give_each.Given as goal

abbrev pub invariant-loop-one : goal.invariant-loop-one
invariant-loop-one l = l.children ≡ with_each l.quantum l.yielded l.fn.children
