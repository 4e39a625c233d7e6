use Rattle.std.proofs.Common.{◌≡◌, true, ap, ◌∙◌}
use Rattle.std.proofs.lemmas.Result.{IfOk-weaker}
use Rattle.det_host.specs.Writing.{output_of}
use Rattle.run_model.specs.Demand.{settle_tree}
use Rattle.run_model.specs.Replay.{replay}
use Rattle.det_core.specs.View.{path_views}
use Rattle.det_laws.proofs.Reaching.{replay_settles}
use Rattle.det_cli.proofs.Shown.{same_prefix, same_stops, stands_within}
use Rattle.det_cli.proofs.showing.walk_and_stream.Goals as goal

-- every schedule leads to what the tree settles to
pub returns-in-Ok-clause-meaning : goal.returns-in-Ok-clause-meaning
returns-in-Ok-clause-meaning g c =
    let confluent : settle_tree (replay (path_views c.args.paths.now) 8 c.args.root) ≡ settle_tree c.args.root
    = replay_settles (path_views c.args.paths.now) 8 true c.requires.0 c.args.root c.requires.1.2 in
    IfOk-weaker c.settle_to.result _ _ (λ s settles. settles ∙ ap settle_tree c.in-Ok.ensures.value ∙ confluent) c.settle_to.ensures.meaning

pub returns-in-Ok-clause-stops : goal.returns-in-Ok-clause-stops
returns-in-Ok-clause-stops g c = λ at failed.
    let confluent : settle_tree (replay (path_views c.args.paths.now) 8 c.args.root) ≡ settle_tree c.args.root
    = replay_settles (path_views c.args.paths.now) 8 true c.requires.0 c.args.root c.requires.1.2 in
    same_stops _ c.args.root c.in-Ok.walked (ap settle_tree c.in-Ok.ensures.value ∙ confluent) (stands_within _ _ c.in-Ok.walked at (c.settle_to.ensures.write at failed))

pub returns-in-Ok-clause-prefix : goal.returns-in-Ok-clause-prefix
returns-in-Ok-clause-prefix g c =
    let confluent : settle_tree (replay (path_views c.args.paths.now) 8 c.args.root) ≡ settle_tree c.args.root
    = replay_settles (path_views c.args.paths.now) 8 true c.requires.0 c.args.root c.requires.1.2 in
    same_prefix (output_of g.O.Sink.taken g.O.Sink.faults c.args.out.now c.settle_to.new.out) c.args.root c.in-Ok.walked (ap settle_tree c.in-Ok.ensures.value ∙ confluent) c.settle_to.ensures.prefix
