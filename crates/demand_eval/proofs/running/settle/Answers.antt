use Rattle.std.proofs.Common.{ap, ◌∙◌, subst, sym}
use Rattle.space_model.specs.Sound.{IsSound}
use Rattle.space_model.specs.Space.{is_settled}
use Rattle.run_model.proofs.Settled.{settled_sound, settled-settled}
use Rattle.demand_eval.proofs.running.settle.Goals as goal

pub returns-clause-settled : goal.returns-clause-settled
returns-clause-settled c = ap is_settled c.in_ok-finish.ensures ∙ settled-settled _ c.requires

pub returns-clause-sound : goal.returns-clause-sound
returns-clause-sound c = subst IsSound (sym c.in_ok-finish.ensures) (settled_sound _ c.requires)
