use Rattle.std.proofs.Common.{ap, ◌∙◌}
use Rattle.std.proofs.lemmas.Result.{on_ok_weaker}
use Rattle.space_model.specs.Space.{space}
use Rattle.user_runtime.proofs.Joins.{join_met}
use Rattle.user_runtime.proofs.joining.join_space.Goals as goal

pub returns-clause-ok : goal.returns-clause-ok
returns-clause-ok c levels =
    on_ok_weaker c.join.result
    (λ e. ap (space c.join.new.caller) c.join.ensures.same ∙ join_met levels c.args.child c.args.space.now c.space.inside.top c.join.new.caller _ c.space.view_is c.requires.fuel e)
    c.join.ensures.ok
