use Rattle.det_core.proofs.Paths.{step_keeps}
use Rattle.det_core.proofs.stepping.step.Goals as goal

pub returns-clause-sound : goal.returns-clause-sound
returns-clause-sound c =
    λ fuel sound. step_keeps c.try_step.result c.as_slice.result.now fuel c.args.space.now c.try_step.new.space c.try_step.ensures.stepped c.try_step.ensures.err sound
