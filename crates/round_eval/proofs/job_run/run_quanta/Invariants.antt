use Rattle.std.proofs.Common.{◌-◌, ◌≤◌}
use Rattle.space_model.specs.Event.{Follows}
use Rattle.round_eval.proofs.job_run.run_quanta.Given as goal

abbrev pub invariant-quanta : goal.invariant-quanta
invariant-quanta l = Follows (8 - l.fn.depth) l.ran l.fn.top l.top × (l.ran ≤ l.fn.most) × (1 ≤ l.stretch)

abbrev pub decreases-quanta : goal.decreases-quanta
decreases-quanta l = l.most - l.ran
