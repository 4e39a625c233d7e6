use Rattle.board.proofs.Going.{runs_at}
use Rattle.board.proofs.going_on.go_on_in.Goals as goal

pub returns-clause-runs : goal.returns-clause-runs
returns-clause-runs c =
    (runs_at c.args.path.now.items c.as_slice.result.now c.len.result c.args.tree.now c.go_on_below.new.space c.in_ok-advance.advance c.as_slice.ensures.value c.len.ensures.value c.requires c.in_ok-advance.ensures.goes).0

pub returns-clause-within : goal.returns-clause-within
returns-clause-within c =
    (runs_at c.args.path.now.items c.as_slice.result.now c.len.result c.args.tree.now c.go_on_below.new.space c.in_ok-advance.advance c.as_slice.ensures.value c.len.ensures.value c.requires c.in_ok-advance.ensures.goes).1
