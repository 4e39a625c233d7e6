use Rattle.std.proofs.Common.{◌≡◌, drop}
use Rattle.run_model.specs.Schedule.{are_ready}
use Rattle.det_core.proofs.waiting.look_all_ready.Given as goal

abbrev pub invariant-loop-index : goal.invariant-loop-index
invariant-loop-index l = record {
  ready : are_ready (drop l.index l.all) l.fn.children ≡ are_ready l.all l.fn.children;
  same : l.children ≡ l.fn.children;
}
