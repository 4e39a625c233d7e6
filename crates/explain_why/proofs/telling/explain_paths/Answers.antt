use Rattle.std.proofs.Common.{map, sym, subst}
use Rattle.std.proofs.lemmas.Result.{IfOk-weaker}
use Rattle.space_model.specs.Sound.{IsSound}
use Rattle.explain_why.specs.Parts.{HasParts}
use Rattle.explain_why.specs.Runs.{TellRuns}
use Rattle.explain_why.specs.Why.{ExplainsSpace}
use Rattle.explain_why.proofs.telling.explain_paths.Goals as goal

pub explain_all-requires-clause-sound : goal.explain_all-requires-clause-sound
explain_all-requires-clause-sound c = subst IsSound (sym c.runs_for.ensures.same) c.requires

pub explain_all-requires-clause-runs : goal.explain_all-requires-clause-runs
explain_all-requires-clause-runs c = subst (λ s. TellRuns s c.in_ok-runs.runs) (sym c.runs_for.ensures.same) c.in_ok-runs.ensures.runs

pub returns : goal.returns
returns c =
    IfOk-weaker c.explain_all.result _ _
    (λ v told. subst (λ r. HasParts (ExplainsSpace r c.args.end.now) (map (λ p. p.items) c.args.paths.now) v.items) c.runs_for.ensures.same told) c.explain_all.ensures.told
