use Rattle.det_core.proofs.Paths.{same_child}
use Rattle.board.proofs.moving.+send_below.Goals as goal

pub returns-in-Some-clause-same : goal.returns-in-Some-clause-same
returns-in-Some-clause-same t c =
    same_child c.args.path.now c.space.inside.top c.args.space.now c.in-Some.child.now c.send_below.new.space c.space.inside.children
    (record { long = c.in-len1-up.len_at_least; is = c.space.view_is; found = c.in-Some.ensures.value }) c.send_below.ensures.same
