use Rattle.explain_core.proofs.LastLines.{at_first}
use Rattle.explain_core.proofs.line_run.LineRun.new.Goals as goal

pub returns-in-Ok : goal.returns-in-Ok
returns-in-Ok c = λ fresh. at_first c.args.tree c.args.wanted.endings.entries fresh
