use Rattle.std.proofs.Common.{◌≡◌}
use Rattle.explain_why.specs.Runs.{TellAll}
use Rattle.explain_why.proofs.planning.lineage_runs.Given as goal

abbrev pub invariant-loop-list : goal.invariant-loop-list
invariant-loop-list l = record {
  same : l.root ≡ l.fn.root;
  tell : TellAll l.fn.root l.runs.items;
}
