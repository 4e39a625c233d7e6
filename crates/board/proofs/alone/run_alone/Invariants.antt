use Rattle.std.proofs.Common.{◌≡◌}
use Rattle.board.specs.Jobs.{IsNoneOut}
use Rattle.board.proofs.alone.run_alone.Given as goal

abbrev pub invariant-loop : goal.invariant-loop
invariant-loop g l =
    (goal.iterator-loop g).can_next l.iterator' × (goal.iterator-loop g).is_finite l.iterator'
    × IsNoneOut l.board.out × (l.board.boot ≡ l.fn.board.boot)
