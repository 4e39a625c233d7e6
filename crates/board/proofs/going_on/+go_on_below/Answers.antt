use Rattle.std.proofs.Common.{◌-◌}
use Rattle.std.proofs.lemmas.Result.{on_err_weaker}
use Rattle.det_core.proofs.Paths.{same_child}
use Rattle.board.proofs.Going.{goes_empty, goes_child}
use Rattle.board.proofs.going_on.+go_on_below.Goals as goal

pub returns-in-empty-clause-goes : goal.returns-in-empty-clause-goes
returns-in-empty-clause-goes t c =
    goes_empty c.args.path.now (8 - c.args.depth) c.advance.result c.args.space.now c.space.inside.top c.advance.new.top c.space.inside.children c.in-empty.len_below c.space.view_is c.advance.ensures.ok c.advance.ensures.some

pub returns-in-Some-clause-goes : goal.returns-in-Some-clause-goes
returns-in-Some-clause-goes t c =
    goes_child c.args.path.now (8 - c.args.depth) c.go_on_below.result c.space.inside.top c.args.space.now c.in-Some.child.now c.go_on_below.new.space c.space.inside.children c.in-len1-up.len_at_least c.space.view_is c.in-Some.ensures.value
    c.go_on_below.ensures.goes

pub returns-in-Some-clause-err : goal.returns-in-Some-clause-err
returns-in-Some-clause-err t c =
    on_err_weaker c.go_on_below.result
    (λ e. same_child c.args.path.now c.space.inside.top c.args.space.now c.in-Some.child.now c.go_on_below.new.space c.space.inside.children
    (record { long = c.in-len1-up.len_at_least; is = c.space.view_is; found = c.in-Some.ensures.value }) e)
    c.go_on_below.ensures.err
