use Rattle.std.proofs.Common.{◌≡◌, ℕ, ◌+◌, ◌-◌, vec_len}
use Rattle.board.specs.Names.{named_at}
use Rattle.board.proofs.starts.reach.Given as goal

abbrev pub invariant-loop-starts : goal.invariant-loop-starts
invariant-loop-starts g l = (other : ℕ) → named_at l.starts.items other ≡ named_at l.fn.starts.items other

abbrev pub decreases-loop-starts : goal.decreases-loop-starts
decreases-loop-starts g l = l.slot + 1 - vec_len l.starts
