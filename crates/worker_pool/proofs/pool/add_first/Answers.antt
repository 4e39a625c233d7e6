use Rattle.std.proofs.Common.{◌+◌, get_or, arith}
use Rattle.std.proofs.lemmas.List.Sums.{sum_by-set}
use Rattle.worker_pool.proofs.pool.add_first.Goals as goal

pub returns : goal.returns
returns c = omega (arith, sum_by-set (λ n. n) c.args.counts.now 0 (get_or c.args.counts.now 0 0 + c.args.more) 0 c.requires.some)
