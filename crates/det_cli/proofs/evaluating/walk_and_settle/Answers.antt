use Rattle.std.proofs.Common.{◌≡◌, true, ap, ◌∙◌}
use Rattle.std.proofs.lemmas.Result.{IfOk-weaker}
use Rattle.run_model.specs.Demand.{settle_tree}
use Rattle.run_model.specs.Replay.{replay}
use Rattle.det_core.specs.View.{path_views}
use Rattle.det_laws.proofs.Reaching.{replay_settles}
use Rattle.det_cli.proofs.evaluating.walk_and_settle.Goals as goal

-- every schedule leads to what the tree settles to
pub returns-clause-meaning : goal.returns-clause-meaning
returns-clause-meaning c =
    let confluent : settle_tree (replay (path_views c.args.paths.now) 8 c.args.root) ≡ settle_tree c.args.root
    = replay_settles (path_views c.args.paths.now) 8 true c.requires.0 c.args.root c.requires.1.2 in
    IfOk-weaker c.settle.result _ _ (λ s settles. settles ∙ ap settle_tree c.in_ok-walked.ensures.value ∙ confluent) c.settle.ensures.meaning
