use Rattle.std.proofs.Common.{length}
use Rattle.det_core.proofs.stepping.+try_step.Given as goal

abbrev pub decreases-try_step : goal.decreases-try_step
decreases-try_step l = length l.path.now
