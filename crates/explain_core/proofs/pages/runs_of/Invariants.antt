use Rattle.std.proofs.Common.{◌-◌}
use Rattle.memory_model.specs.Sizes.{pages}
use Rattle.explain_core.proofs.Runs.{RunsSoFar}
use Rattle.explain_core.proofs.pages.runs_of.Given as goal

abbrev pub invariant-runs : goal.invariant-runs
invariant-runs l = let m = l.memory in RunsSoFar m.memory l.runs.items l.page

abbrev pub decreases-runs : goal.decreases-runs
decreases-runs l = pages - l.page
