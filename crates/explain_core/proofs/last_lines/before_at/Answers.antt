use Rattle.std.proofs.Common.{sym, ◌∙◌}
use Rattle.std.proofs.lemmas.Result.{IfOk-weaker}
use Rattle.explain_core.proofs.LastLines.{finds_there}
use Rattle.explain_core.proofs.last_lines.before_at.Goals as goal

pub returns-in-Ok-Some-clause-some : goal.returns-in-Ok-Some-clause-some
returns-in-Ok-Some-clause-some c =
    IfOk-weaker c.before_line.result _ _ (λ o finds. finds_there o c.args.path.now.items c.args.tree.now c.in-Ok-Some.top (sym c.in-Ok-Some.field-0-is ∙ c.in-Ok-Some.ensures.equal) finds) c.before_line.ensures
