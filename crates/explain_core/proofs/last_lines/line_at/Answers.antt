use Rattle.std.proofs.lemmas.Result.{IfOk-weaker}
use Rattle.explain_core.proofs.LastLines.{not_none}
use Rattle.explain_core.proofs.last_lines.line_at.Goals as goal

pub returns-in-Some-clause-none : goal.returns-in-Some-clause-none
returns-in-Some-clause-none c = IfOk-weaker c.line_behind.result _ _ (λ o some none. absurd (not_none o some none)) c.line_behind.ensures.some
