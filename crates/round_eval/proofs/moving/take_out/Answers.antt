use Rattle.std.proofs.Common.{ap}
use Rattle.space_model.specs.Stop.{is_stopped}
use Rattle.round_eval.proofs.Moves.{taken}
use Rattle.round_eval.proofs.moving.take_out.Goals as goal

pub returns-then-runs_at-clause-some : goal.returns-then-runs_at-clause-some
returns-then-runs_at-clause-some c =
    taken c.args.path.now.items c.swap_top.result c.fresh.result c.args.space.now c.swap_top.new.space (c.runs_at.ensures c.if-runs_at.true) c.swap_top.ensures.former
    (ap (λ t. is_stopped t.status) c.fresh.ensures) c.swap_top.ensures.swapped
