use Rattle.std.specs.Prelude.{pred}
use Rattle.explain_core.proofs.TurnsAt.{nothing_happens, turn_of_child}
use Rattle.explain_core.proofs.turning.+stretch_at.Goals as goal
use Rattle.explain_core.proofs.turning.+stretch_at.Goals.{stretch_below-in-Some, stretch_below-in-None}

pub stretch_below-returns-clause-turns : goal.stretch_below-returns-clause-turns
stretch_below-returns-clause-turns t c = λ levels. elim c.match-get_mut.branch [
  | stretch_below-in-Some w ↦
      rw (w.result-is, w.space-inside-is)
      (turn_of_child levels c.args.number c.args.watched c.args.rest.now c.args.before w.stretch_at.result.count w.stretch_at.result.last c.space.inside.top c.args.space.now w.in-Some.child.now w.stretch_at.new.space c.space.inside.children c.space.view_is
      w.in-Some.ensures.value (w.stretch_at.ensures.turns (pred levels)))
  | stretch_below-in-None w ↦
      rw (w.result-is, w.space-inside-is)
      (nothing_happens levels c.args.watched _ c.args.before w.no_events.result.count w.no_events.result.last c.args.space.now _ w.no_events.ensures.count w.no_events.ensures.last c.space.view_is)
]
