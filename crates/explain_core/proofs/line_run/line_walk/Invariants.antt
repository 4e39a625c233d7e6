use Rattle.space_model.specs.Space.{Space}
use Rattle.explain_core.specs.LastLines.{TellsLines}
use Rattle.explain_core.proofs.line_run.line_walk.Given as goal

abbrev pub invariant-turns : goal.invariant-turns
invariant-turns l = (root : Space) → TellsLines root l.fn.run → TellsLines root l.run
