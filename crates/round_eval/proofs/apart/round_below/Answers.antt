use Rattle.round_eval.proofs.RootFirst.{round_back}
use Rattle.round_eval.proofs.apart.round_below.Goals as goal

pub returns-clause-ok : goal.returns-clause-ok
returns-clause-ok g c =
    round_back _ _ _ _ _ _ _ _ _ _ _ c.space.view_is c.replace-root.ensures.value c.replace-root.ensures.after c.fresh-place.ensures c.in_ok-some.ensures c.space-2.view_is
