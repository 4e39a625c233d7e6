use Rattle.std.proofs.Common.{◌≡◌, ◌-◌, ◌+◌, ◌∙◌, arith}
use Rattle.std.specs.Prelude.{pred}
use Rattle.std.proofs.lemmas.Result.{IfOk-weaker, on_ok_weaker, on_err_weaker}
use Rattle.space_tree.proofs.Paths.{onward}
use Rattle.run_model.specs.Schedule.{call_at}
use Rattle.det_core.proofs.Paths.{call_child, call_none, met_child, met_none, same_child}
use Rattle.det_core.proofs.meeting.+meet_below.Goals as goal

pub returns-in_default-clause-call : goal.returns-in_default-clause-call
returns-in_default-clause-call t c =
    call_none c.args.path.now (8 - c.args.depth) c.space.inside.top c.args.space.now c.space.inside.children
    (record { long = c.in-len1-up.len_at_least; is = c.space.view_is; found = c.in_default.ensures.value })

pub returns-in_default-clause-met : goal.returns-in_default-clause-met
returns-in_default-clause-met t c =
    met_none c.args.path.now (8 - c.args.depth) c.space.inside.top c.args.space.now c.space.inside.children
    (record { long = c.in-len1-up.len_at_least; is = c.space.view_is; found = c.in_default.ensures.value })

pub returns-in-Some-clause-call : goal.returns-in-Some-clause-call
returns-in-Some-clause-call t c =
    let below : 8 - (c.args.depth + 1) ≡ pred (8 - c.args.depth) = omega arith in
    let same = call_child c.args.path.now (8 - c.args.depth) (8 - (c.args.depth + 1)) c.space.inside.top c.args.space.now c.in-Some.child.now c.space.inside.children below
    (record { long = c.in-len1-up.len_at_least; is = c.space.view_is; found = c.in-Some.ensures.value }) in
    IfOk-weaker c.meet_below.result (λ o. o ≡ call_at (onward c.args.path.now) (8 - (c.args.depth + 1)) c.in-Some.child.now) (λ o. o ≡ call_at c.args.path.now (8 - c.args.depth) c.args.space.now)
    (λ o e. e ∙ same) c.meet_below.ensures.call

pub returns-in-Some-clause-met : goal.returns-in-Some-clause-met
returns-in-Some-clause-met t c =
    let below : 8 - (c.args.depth + 1) ≡ pred (8 - c.args.depth) = omega arith in
    on_ok_weaker c.meet_below.result
    (λ e. met_child c.args.path.now (8 - c.args.depth) (8 - (c.args.depth + 1)) c.space.inside.top c.args.space.now c.in-Some.child.now c.meet_below.new.space c.space.inside.children below
    (record { long = c.in-len1-up.len_at_least; is = c.space.view_is; found = c.in-Some.ensures.value }) e)
    c.meet_below.ensures.met

pub returns-in-Some-clause-err : goal.returns-in-Some-clause-err
returns-in-Some-clause-err t c =
    on_err_weaker c.meet_below.result
    (λ e. same_child c.args.path.now c.space.inside.top c.args.space.now c.in-Some.child.now c.meet_below.new.space c.space.inside.children
    (record { long = c.in-len1-up.len_at_least; is = c.space.view_is; found = c.in-Some.ensures.value }) e)
    c.meet_below.ensures.err
