use Rattle.std.proofs.Common.{sym, ◌∙◌}
use Rattle.std.proofs.lemmas.Result.{IfOk-weaker}
use Rattle.std.specs.Prelude.{string_bytes}
use Rattle.explain_core.proofs.LastLines.{some_line}
use Rattle.explain_core.proofs.TurnsAt.{event_stays}
use Rattle.explain_core.proofs.last_lines.event_line.Goals as goal

pub returns-in-Ok-true-clause-some : goal.returns-in-Ok-true-clause-some
returns-in-Ok-true-clause-some c =
    let may = sym c.in-Ok-true.ensures.ok ∙ c.in-Ok-true.field-0-test in
    IfOk-weaker c.line_at.result _ _
    (λ o leaves. some_line string_bytes o c.args.path.now.items c.args.number c.args.tree.now c.step.new.space c.args.before.now c.requires.some may c.in-Ok-true.ensures.stepped c.requires.finds leaves) c.line_at.ensures.some

pub returns-in-Ok-true-clause-none : goal.returns-in-Ok-true-clause-none
returns-in-Ok-true-clause-none c =
    let may = sym c.in-Ok-true.ensures.ok ∙ c.in-Ok-true.field-0-test in
    IfOk-weaker c.line_at.result _ _ (λ o gone none. absurd (event_stays c.args.path.now.items c.args.tree.now c.step.new.space may c.in-Ok-true.ensures.stepped (gone none))) c.line_at.ensures.none
