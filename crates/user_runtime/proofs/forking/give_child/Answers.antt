use Rattle.std.proofs.Common.{refl}
use Rattle.std.proofs.lemmas.Result.{on_ok_weaker}
use Rattle.std.specs.Prelude.{is_some}
use Rattle.user_runtime.specs.Calls.{after_fork_of}
use Rattle.user_runtime.proofs.Entries.{given_there, given_missing}
use Rattle.user_runtime.proofs.forking.give_child.Goals as goal

pub returns-in-Some-clause-ok : goal.returns-in-Some-clause-ok
returns-in-Some-clause-ok c =
    let w = c.give_top.new.child in
    given_there c.args.number (after_fork_of (is_some c.args.snapshot) c.args.caller.now) c.args.caller.now c.in-Some.child.now w c.args.children.now _ c.in-Some.ensures.value refl c.give_top.ensures

pub returns-in-None-clause-ok : goal.returns-in-None-clause-ok
returns-in-None-clause-ok c =
    let part = after_fork_of (is_some c.args.snapshot) c.args.caller.now in
    on_ok_weaker c.insert.result (λ put. given_missing c.args.number part c.args.caller.now c.make_child-child.result c.args.children.now _ c.in-None.ensures.value put c.make_child-child.ensures) c.insert.ensures.ok
