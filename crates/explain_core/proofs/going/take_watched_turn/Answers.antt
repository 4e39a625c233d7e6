use Rattle.std.proofs.Common.{◌+◌, ◌-◌, refl, sym, ◌∙◌}
use Rattle.space_model.specs.Space.{space}
use Rattle.space_step.proofs.Events.{not_stopped_runs}
use Rattle.explain_core.specs.Watch.{kept_of}
use Rattle.explain_core.proofs.WatchedEvents.{watched_turn}
use Rattle.explain_core.proofs.going.take_watched_turn.Goals as goal

pub returns-clause-some : goal.returns-clause-some
returns-clause-some c = λ levels ok.
    let most = c.at_most-most.ensures in
    watched_turn levels c.args.left (c.args.asked.now.to - c.args.left + 1) c.at_most-most.result c.args.asked.now c.args.watched c.watch_stretch-stretch.result (kept_of c.args.kept.now) (kept_of c.keep_last.new.kept)
    c.space.inside.top c.watch_stretch-stretch.new.top c.space.inside.children c.args.space.now (space c.watch_stretch-stretch.new.top c.space.inside.children) ok c.space.view_is refl
    (not_stopped_runs c.space.inside.top (sym c.is_stopped.ensures ∙ c.if-is_stopped.false)) c.watch_stretch-stretch.ensures most.within c.requires.some c.requires.within refl c.requires.asked c.requires.noticing c.if-stretch-eq0.false c.keep_last.ensures
