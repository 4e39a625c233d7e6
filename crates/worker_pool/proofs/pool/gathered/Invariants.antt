use Rattle.std.proofs.Common.{◌≡◌, ◌+◌, length, sum, vec_len}
use Rattle.worker_pool.proofs.pool.gathered.Given as goal

abbrev pub invariant-loop-one : goal.invariant-loop-one
invariant-loop-one g l =
    (l.all_out.parts ≡ length l.yielded + 1) × (l.all_out.amount ≡ 0)
    × (l.all_done.parts ≡ length l.yielded + 1) × (l.all_done.amount ≡ sum l.counts.items)
    × (vec_len l.counts ≡ length l.yielded)
