use Rattle.std.proofs.Common.{refl, ap, ◌∙◌}
use Rattle.run_model.specs.Schedule.{try_step}
use Rattle.det_core.specs.View.{path_views}
use Rattle.det_core.proofs.Walks.{goes_on, is_done, walked_sound}
use Rattle.det_core.proofs.walking.walk.Goals as goal

pub loop-path-init : goal.loop-path-init
loop-path-init c = refl

pub loop-path-preserved : goal.loop-path-preserved
loop-path-preserved c =
    goes_on (λ p. p.items) c.args.paths.now c.loop-path.path-index c.path-item.result c.loop-path.space c.step.new.space _ c.loop-path-test.true
    (c.in_default.ensures.stepped ∙ ap (λ p. try_step p.items 8 c.loop-path.space) c.path-item.is) c.loop-path.invariant

pub returns-clause-value : goal.returns-clause-value
returns-clause-value c = is_done (λ p. p.items) c.args.paths.now c.loop-path.path-index c.loop-path.space _ c.loop-path-test.false c.loop-path.invariant

pub returns-clause-sound : goal.returns-clause-sound
returns-clause-sound c =
    walked_sound (path_views c.args.paths.now) c.args.space c.loop-path.space (is_done (λ p. p.items) c.args.paths.now c.loop-path.path-index c.loop-path.space _ c.loop-path-test.false c.loop-path.invariant)
