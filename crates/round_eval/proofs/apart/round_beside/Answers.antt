use Rattle.std.specs.Prelude.{nat_lt}
use Rattle.round_eval.proofs.RootFirst.{beside_shows, either_later, went_beside}
use Rattle.round_eval.proofs.apart.round_beside.Goals as goal

pub returns-clause-ok : goal.returns-clause-ok
returns-clause-ok g c =
    let went = c.in_ok-top.ensures c.args.events c.replace-root.result c.begin_root-begun.ensures in
    either_later (nat_lt 0 c.in_ok-top.field-0.ran) c.in_ok-some.some _ _ _ c.either.ensures
    (went_beside _ _ _ _ _ _ _ _ _ _ _ _ _ c.space.view_is c.replace-root.ensures.value c.replace-root.ensures.after c.fresh-place.ensures went.follows c.in_ok-some.ensures c.space-2.view_is)

pub returns-clause-shows : goal.returns-clause-shows
returns-clause-shows g c =
    let went = c.in_ok-top.ensures c.args.events c.replace-root.result c.begin_root-begun.ensures in
    beside_shows _ _ _ _ _ _ _ _ _ _ _ c.space.view_is c.replace-root.ensures.value went c.in_ok-append.ensures
