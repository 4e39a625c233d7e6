use Rattle.space_model.specs.Space.{Space}
use Rattle.explain_core.specs.LastLines.{IsFresh}
use Rattle.explain_why.specs.Runs.{TellAll}
use Rattle.explain_why.proofs.planning.line_run.Given as goal

abbrev pub invariant-loop-trap : goal.invariant-loop-trap
invariant-loop-trap l = record {
  fresh : IsFresh l.wanted;
  tell : (root : Space) → TellAll root l.fn.runs.items → TellAll root l.runs.items;
}
