use Rattle.std.proofs.Common.{rules, ◌≡◌, ◌∙◌, ap}
use Rattle.space_model.specs.Space.{space}
use Rattle.std.specs.String.{string_bytes}
use Rattle.report_model.specs.Report.{stop_text}
use Rattle.det_report.proofs.Sums.{summary_of}
use Rattle.det_report.proofs.summing.summary.Goals as goal

pub returns : goal.returns
returns c =
    let stop : string_bytes c.in_ok-root.root ≡ stop_text c.space.inside.top.status = search rules in
    summary_of c.space.inside.top c.entries.result.now.entries c.args.space.now c.len-threads.result c.sums_of-spaces.result.spaces c.sums_of-spaces.result.used c.console_len-console.result
    (string_bytes c.in_ok-root.root) c.into_bytes.result.items (ap (space c.space.inside.top) c.entries.ensures ∙ c.space.view_is) c.len-threads.ensures.len c.sums_of-spaces.ensures.spaces c.sums_of-spaces.ensures.used c.console_len-console.ensures stop (search rules)
