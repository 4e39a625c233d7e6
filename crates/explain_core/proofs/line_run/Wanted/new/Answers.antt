use Rattle.explain_core.proofs.LastLines.{none_fresh}
use Rattle.explain_core.proofs.line_run.Wanted.new.Goals as goal

pub returns : goal.returns
returns c = none_fresh c.new-endings.result.entries c.new-endings.ensures.empty
