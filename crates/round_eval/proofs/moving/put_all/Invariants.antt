use Rattle.std.proofs.Common.{vec_len}
use Rattle.round_eval.proofs.Moves.{AreLeft}
use Rattle.round_eval.proofs.moving.put_all.Given as goal

abbrev pub invariant-loop-done : goal.invariant-loop-done
invariant-loop-done l = AreLeft l.dones.items l.fn.dones.items l.space l.fn.space

abbrev pub decreases-loop-done : goal.decreases-loop-done
decreases-loop-done l = vec_len l.dones
