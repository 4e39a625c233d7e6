use Rattle.std.proofs.Common.{ap, ap₂, ◌∙◌}
use Rattle.std.proofs.lemmas.Result.{IfOk-weaker}
use Rattle.report_model.specs.Summary.{summary}
use Rattle.det_cli.specs.Commands.{bench_fuel, settled_root}
use Rattle.det_cli.proofs.benching.summary_of.Goals as goal

pub returns : goal.returns
returns g c =
    let root = c.in_ok-root.ensures.root ∙ ap₂ (λ i d. settled_root i d bench_fuel) c.in_ok-image.ensures c.no_script.ensures in
    IfOk-weaker c.summary.result _ _ (λ v e. e ∙ ap summary root) c.summary.ensures
