use Rattle.std.proofs.Common.{sym, ap, ◌∙◌}
use Rattle.space_model.specs.Stop.{is_stopped}
use Rattle.space_model.specs.Space.{top_of}
use Rattle.round_eval.proofs.Moves.{runs_here, not_true}
use Rattle.round_eval.proofs.moving.runs_at.Goals as goal

pub returns-in-Some : goal.returns-in-Some
returns-in-Some c =
    λ runs. runs_here c.args.path.now.items c.args.space.now c.in-Some.found.now c.in-Some.ensures.some
    (sym (c.is_stopped.ensures ∙ ap (λ s. let t = top_of s in is_stopped t.status) c.found.view_is) ∙ not_true c.is_stopped.result runs)
