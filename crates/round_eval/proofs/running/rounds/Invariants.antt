use Rattle.std.proofs.Common.{◌≡◌}
use Rattle.space_model.specs.Sound.{IsSound}
use Rattle.run_model.specs.Demand.{settle_tree}
use Rattle.det_laws.specs.Tree.{events_left}
use Rattle.round_eval.proofs.running.rounds.Given as goal

abbrev pub invariant-rounds : goal.invariant-rounds
invariant-rounds g l = record { same : settle_tree l.space ≡ settle_tree l.fn.space; sound : IsSound l.space }

abbrev pub decreases-rounds : goal.decreases-rounds
decreases-rounds g l = events_left l.space
