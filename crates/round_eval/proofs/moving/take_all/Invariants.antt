use Rattle.det_laws.specs.Moved.{AreOut}
use Rattle.round_eval.specs.Jobs.{jobs_out}
use Rattle.round_eval.proofs.moving.take_all.Given as goal

abbrev pub invariant-loop-path : goal.invariant-loop-path
invariant-loop-path l = AreOut (jobs_out l.jobs.items) l.fn.space l.space
