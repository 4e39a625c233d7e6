use Rattle.space_model.specs.Space.{Space}
use Rattle.explain_core.specs.LastLines.{TellsEndings}
use Rattle.explain_core.proofs.line_run.line_turns.Given as goal

abbrev pub invariant-turns : goal.invariant-turns
invariant-turns l = (root : Space) → TellsEndings root l.fn.endings.entries l.fn.tree → TellsEndings root l.endings.entries l.tree
