use Rattle.std.proofs.Common.{◌≡◌, length}
use Rattle.space_model.specs.Space.{Space}
use Rattle.explain_why.specs.Runs.{TellAll}
use Rattle.explain_why.proofs.runs.lineage_in.Given as goal

-- as many as before, and each tells what it told
abbrev pub invariant-loop-index : goal.invariant-loop-index
invariant-loop-index l = record {
  long : length l.runs.items ≡ length l.fn.runs.items;
  tell : (root : Space) → TellAll root l.fn.runs.items → TellAll root l.runs.items;
}
