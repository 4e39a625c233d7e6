use Prim.Native.Nat.{◌+◌, ◌*◌}
use Rattle.worker_pool.proofs.side_by_side.+side_by_side.Given as goal

abbrev pub decreases-side_by_side : goal.decreases-side_by_side
decreases-side_by_side g l = 2 * l.jobs.len

abbrev pub decreases-others : goal.decreases-others
decreases-others g l = 2 * l.jobs.len + 1
