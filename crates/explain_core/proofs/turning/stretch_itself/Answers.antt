use Rattle.std.proofs.Common.{refl, sym, ◌∙◌}
use Rattle.space_model.specs.Space.{space}
use Rattle.space_step.proofs.Events.{not_stopped_runs}
use Rattle.explain_core.proofs.TurnsAt.{watched_stretch}
use Rattle.explain_core.proofs.turning.stretch_itself.Goals as goal

pub returns-clause-turns : goal.returns-clause-turns
returns-clause-turns c = λ levels.
    watched_stretch levels c.args.before c.args.most c.args.watched c.watch_stretch.result c.space.inside.top c.watch_stretch.new.top c.space.inside.children c.args.space.now (space c.watch_stretch.new.top c.space.inside.children) c.space.view_is refl
    (not_stopped_runs c.space.inside.top (sym c.is_stopped.ensures ∙ c.if-is_stopped.false)) c.watch_stretch.ensures
