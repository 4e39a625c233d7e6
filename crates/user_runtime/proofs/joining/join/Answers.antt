use Rattle.std.proofs.Common.{◌+◌, ap, refl, ◌∙◌}
use Rattle.std.proofs.lemmas.Result.{on_ok_weaker}
use Rattle.space_model.specs.Space.{top_of}
use Rattle.user_runtime.specs.Joins.{with_join}
use Rattle.user_runtime.proofs.Entries.{given_same, read_there, read_missing}
use Rattle.user_runtime.proofs.Joins.{join_missing}
use Rattle.user_runtime.proofs.joining.join.Goals as goal

pub returns-in-Some-clause-ok : goal.returns-in-Some-clause-ok
returns-in-Some-clause-ok c =
    let t = c.args.caller.now in
    let read = read_there c.args.number t (top_of c.in-Some.child.now) c.in-Some.child.now c.args.children.now c.in-Some.ensures.value refl in
    on_ok_weaker c.join_below.result (λ e. e ∙ ap (λ d. with_join d t) read) c.join_below.ensures.ok

pub returns-in-Some-clause-same : goal.returns-in-Some-clause-same
returns-in-Some-clause-same c =
    given_same c.args.number c.in-Some.child.now c.join_below.new.child c.args.children.now _ c.in-Some.ensures.value refl c.join_below.ensures.same

pub returns-in-None-clause-ok : goal.returns-in-None-clause-ok
returns-in-None-clause-ok c =
    let t = c.args.caller.now in
    join_missing (t.fuel + t.used) c.no_snapshot.result t c.trap.new.self c.no_snapshot.ensures c.trap.ensures
    ∙ ap (λ d. with_join d t) (read_missing c.args.number t c.args.children.now c.in-None.ensures.value)
