use Rattle.round_eval.proofs.Moves.{one_more_job}
use Rattle.round_eval.proofs.moving.take_all.Goals as goal

pub loop-path-preserved-in-Continue-1 : goal.loop-path-preserved-in-Continue-1
loop-path-preserved-in-Continue-1 c = one_more_job _ _ _ _ _ _ c.in_ok-push.ensures.items c.loop-path.invariant c.in-Some-take_out.ensures.some
