use Rattle.std.proofs.Common.{◌≡◌, cond}
use Rattle.worker_pool.specs.Turns.{is_job}
use Rattle.worker_pool.proofs.worker.take_turns.Given as goal

abbrev pub invariant-loop : goal.invariant-loop
invariant-loop g l =
    (goal.iterator-loop g).can_next l.iterator' × (goal.iterator-loop g).is_finite l.iterator'
    × (l.out.parts ≡ 1) × (l.out.amount ≡ cond (is_job l.turn) 1 0) × (l.tally.parts ≡ 1) × (l.tally.amount ≡ l.count)
