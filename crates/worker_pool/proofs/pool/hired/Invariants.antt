use Rattle.std.proofs.Common.{◌≡◌, ◌+◌, vec_len}
use Rattle.worker_pool.proofs.pool.hired.Given as goal

abbrev pub invariant-loop-number : goal.invariant-loop-number
invariant-loop-number g l =
    (l.all_out.parts + l.number ≡ l.workers + 1) × (l.all_out.amount ≡ 0)
    × (l.all_done.parts + l.number ≡ l.workers + 1) × (l.all_done.amount ≡ 0)
    × (vec_len l.staff ≡ l.number)
