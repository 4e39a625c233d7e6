use Rattle.std.proofs.Common.{◌+◌, ap, refl, ◌∙◌}
use Rattle.std.proofs.lemmas.Result.{on_ok_weaker}
use Rattle.space_model.specs.Runtime.{after_wait}
use Rattle.space_model.specs.Space.{top_of}
use Rattle.user_runtime.proofs.Entries.{given_same, read_there, read_missing}
use Rattle.user_runtime.proofs.waiting.wait_number.Goals as goal

pub returns-in-Some-clause-ok : goal.returns-in-Some-clause-ok
returns-in-Some-clause-ok c =
    let t = c.args.caller.now in
    let read = read_there c.args.number t (top_of c.in-Some.child.now) c.in-Some.child.now c.args.children.now c.in-Some.ensures.value refl in
    on_ok_weaker c.wait_below.result (λ e. e ∙ ap (λ d. after_wait d t) read) c.wait_below.ensures.ok

pub returns-in-Some-clause-same : goal.returns-in-Some-clause-same
returns-in-Some-clause-same c =
    given_same c.args.number c.in-Some.child.now c.wait_below.new.child c.args.children.now _ c.in-Some.ensures.value refl c.wait_below.ensures.same

pub returns-in-None-clause-ok : goal.returns-in-None-clause-ok
returns-in-None-clause-ok c =
    let t = c.args.caller.now in
    c.wait_missing.ensures (t.fuel + t.used) ∙ ap (λ d. after_wait d t) (read_missing c.args.number t c.args.children.now c.in-None.ensures.value)
