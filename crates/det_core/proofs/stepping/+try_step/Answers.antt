use Rattle.std.proofs.Common.{◌≡◌, ◌-◌, ◌+◌, ◌∙◌, arith}
use Rattle.std.specs.Prelude.{pred}
use Rattle.std.proofs.lemmas.Result.{IfOk-weaker, on_ok_weaker, on_err_weaker}
use Rattle.run_model.specs.Schedule.{is_enabled}
use Rattle.space_tree.proofs.Paths.{onward}
use Rattle.det_core.proofs.Paths.{enabled_child, enabled_none, stepped_child, stepped_none, same_child}
use Rattle.det_core.proofs.stepping.+try_step.Goals as goal

pub returns-in_default-clause-ok : goal.returns-in_default-clause-ok
returns-in_default-clause-ok t c =
    enabled_none c.args.path.now (8 - c.args.depth) c.space.inside.top c.args.space.now c.space.inside.children
    (record { long = c.in-len1-up.len_at_least; is = c.space.view_is; found = c.in_default.ensures.value })

pub returns-in_default-clause-stepped : goal.returns-in_default-clause-stepped
returns-in_default-clause-stepped t c =
    stepped_none c.args.path.now (8 - c.args.depth) c.space.inside.top c.args.space.now c.space.inside.children
    (record { long = c.in-len1-up.len_at_least; is = c.space.view_is; found = c.in_default.ensures.value })

pub returns-in-Some-clause-ok : goal.returns-in-Some-clause-ok
returns-in-Some-clause-ok t c =
    let below : 8 - (c.args.depth + 1) ≡ pred (8 - c.args.depth) = omega arith in
    let same = enabled_child c.args.path.now (8 - c.args.depth) (8 - (c.args.depth + 1)) c.space.inside.top c.args.space.now c.in-Some.child.now c.space.inside.children below
    (record { long = c.in-len1-up.len_at_least; is = c.space.view_is; found = c.in-Some.ensures.value }) in
    IfOk-weaker c.try_step.result (λ b. b ≡ is_enabled (onward c.args.path.now) (8 - (c.args.depth + 1)) c.in-Some.child.now) (λ b. b ≡ is_enabled c.args.path.now (8 - c.args.depth) c.args.space.now)
    (λ b e. e ∙ same) c.try_step.ensures.ok

pub returns-in-Some-clause-stepped : goal.returns-in-Some-clause-stepped
returns-in-Some-clause-stepped t c =
    let below : 8 - (c.args.depth + 1) ≡ pred (8 - c.args.depth) = omega arith in
    on_ok_weaker c.try_step.result
    (λ e. stepped_child c.args.path.now (8 - c.args.depth) (8 - (c.args.depth + 1)) c.space.inside.top c.args.space.now c.in-Some.child.now c.try_step.new.space c.space.inside.children below (record { long = c.in-len1-up.len_at_least; is = c.space.view_is; found = c.in-Some.ensures.value }) e)
    c.try_step.ensures.stepped

pub returns-in-Some-clause-err : goal.returns-in-Some-clause-err
returns-in-Some-clause-err t c =
    on_err_weaker c.try_step.result
    (λ e. same_child c.args.path.now c.space.inside.top c.args.space.now c.in-Some.child.now c.try_step.new.space c.space.inside.children
    (record { long = c.in-len1-up.len_at_least; is = c.space.view_is; found = c.in-Some.ensures.value }) e)
    c.try_step.ensures.err
