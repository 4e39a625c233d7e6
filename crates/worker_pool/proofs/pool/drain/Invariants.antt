use Rattle.std.proofs.Common.{◌≡◌, ◌+◌, ◌<◌, ◌^◌}
use Rattle.worker_pool.proofs.pool.drain.Given as goal

abbrev pub invariant-loop : goal.invariant-loop
invariant-loop g l =
    (goal.iterator-loop g).can_next l.iterator' × (goal.iterator-loop g).is_finite l.iterator'
    × (g.S.Shop.owed l.shop ≡ 0)
    × (g.S.Shop.accepted l.shop ≡ g.S.Shop.accepted l.fn.shop + l.count)
    × (0 < l.count → g.S.Shop.accepted l.shop < 2 ^ 64)
