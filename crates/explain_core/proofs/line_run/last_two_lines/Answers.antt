use Rattle.std.proofs.lemmas.Result.{IfOk-weaker}
use Rattle.explain_core.specs.LastLines.{TellsLines}
use Rattle.explain_core.proofs.LastLines.{some_trace}
use Rattle.explain_core.proofs.line_run.last_two_lines.Goals as goal

pub returns-clause-lines : goal.returns-clause-lines
returns-clause-lines c =
    let run = c.line_walk.new.run in
    IfOk-weaker c.lines_at.result _ _
    (λ o has. some_trace (λ v. v.items) o c.args.path.now.items c.args.count run.endings.entries run.tree (λ root. TellsLines root c.args.run.now) c.in_ok-line_walk.ensures has) c.lines_at.ensures
