use Rattle.std.proofs.Common.{◌≡◌}
use Rattle.worker_pool.proofs.worker.wait_for_turn.Given as goal

abbrev pub invariant-loop : goal.invariant-loop
invariant-loop g l =
    (goal.iterator-loop g).can_next l.iterator' × (goal.iterator-loop g).is_finite l.iterator'
    × (l.out.parts ≡ l.fn.out.parts) × (l.out.amount ≡ l.fn.out.amount)
