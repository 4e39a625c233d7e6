use Rattle.std.proofs.Common.{◌≡◌, ◌-◌, ◌+◌, arith}
use Rattle.std.specs.Prelude.{pred}
use Rattle.std.proofs.lemmas.Result.{IfOk-weaker}
use Rattle.det_core.proofs.Paths.{same_child}
use Rattle.round_eval.proofs.Onward.{below_reaches, if_some_weaker}
use Rattle.round_eval.proofs.going.+go_on_below.Goals as goal

pub returns-in-Some-clause-some : goal.returns-in-Some-clause-some
returns-in-Some-clause-some t c =
    let below : 8 - (c.args.depth + 1) ≡ pred (8 - c.args.depth) = omega arith in
    IfOk-weaker c.go_on_below.result _ _
    (λ o h. if_some_weaker o _ _
    (λ a r. below_reaches c.args.path.now (8 - c.args.depth) (8 - (c.args.depth + 1)) c.space.inside.top c.args.space.now c.in-Some.child.now c.go_on_below.new.space c.space.inside.children a.ran below
    (record { long = c.in-len1-up.len_at_least; is = c.space.view_is; found = c.in-Some.ensures.value }) r) h)
    c.go_on_below.ensures.some

pub returns-in-Some-clause-none : goal.returns-in-Some-clause-none
returns-in-Some-clause-none t c =
    IfOk-weaker c.go_on_below.result _ _
    (λ o h. λ none. same_child c.args.path.now c.space.inside.top c.args.space.now c.in-Some.child.now c.go_on_below.new.space c.space.inside.children
    (record { long = c.in-len1-up.len_at_least; is = c.space.view_is; found = c.in-Some.ensures.value }) (h none))
    c.go_on_below.ensures.none
