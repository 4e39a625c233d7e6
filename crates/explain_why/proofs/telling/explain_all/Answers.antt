use Rattle.std.proofs.Common.{◌∙◌, sym, subst, rules}
use Rattle.space_model.specs.Sound.{IsSound}
use Rattle.explain_why.specs.Runs.{TellRuns}
use Rattle.explain_why.specs.Why.{ExplainsSpace}
use Rattle.explain_why.proofs.Parts.{next_of}
use Rattle.explain_why.proofs.telling.explain_all.Goals as goal

pub explain_space-requires-clause-sound : goal.explain_space-requires-clause-sound
explain_space-requires-clause-sound c = subst IsSound (sym c.loop-path.invariant.same) c.requires.sound

pub explain_space-requires-clause-runs : goal.explain_space-requires-clause-runs
explain_space-requires-clause-runs c = subst (λ s. TellRuns s c.loop-path.runs) (sym c.loop-path.invariant.same) (c.loop-path.invariant.runs c.args.root.now c.requires.runs)

pub loop-path-preserved : goal.loop-path-preserved
loop-path-preserved c = record {
  same = c.explain_space.ensures.same ∙ c.loop-path.invariant.same;
  told =
      next_of (λ p. p.items) (ExplainsSpace c.args.root.now c.args.end.now) c.args.paths.now c.loop-path.path-index c.path-item.result c.loop-path.text.items c.in_ok-part.part.items c.extend_from_slice.new.self.items (search rules) c.loop-path.invariant.told
      (subst (λ p. ExplainsSpace c.args.root.now c.args.end.now p.items c.in_ok-part.part.items) c.path-item.is (subst (λ s. ExplainsSpace s c.args.end.now c.path-item.result.items c.in_ok-part.part.items) c.loop-path.invariant.same c.in_ok-part.ensures.told)) (search rules);
  runs = λ root tell. c.in_ok-part.ensures.runs root (c.loop-path.invariant.runs root tell);
}
