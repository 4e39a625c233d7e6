use Rattle.std.proofs.Common.{◌≡◌, drop}
use Rattle.run_model.specs.Schedule.{are_ready}
use Rattle.det_core.proofs.enabling.are_ready.Given as goal

abbrev pub invariant-loop-index : goal.invariant-loop-index
invariant-loop-index l = are_ready (drop l.index l.all) l.children ≡ are_ready l.all l.children
