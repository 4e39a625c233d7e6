use Rattle.std.proofs.Common.{Some, ◌++◌, sym, ap, ◌∙◌}
use Rattle.explain_core.proofs.WatchLists.{entry_there}
use Rattle.explain_core.proofs.line_run.lines_at.Goals as goal

pub returns-in_ok-extend_from_slice-in-Some : goal.returns-in_ok-extend_from_slice-in-Some
returns-in_ok-extend_from_slice-in-Some c =
    let e = c.in-Some.ending.now in
    let there = entry_there c.args.endings.now.entries c.args.path.now (Some e) c.in-Some.ensures.value in
    let text = c.in_ok-extend_from_slice-in-Some.ensures.items ∙ ap (λ u. u ++ c.deref.result.now) c.new-lines.ensures.items ∙ c.deref.ensures.value in
    (e, sym there, c.if-ending-count.false, c.if-ending-count-2.false, sym text)
