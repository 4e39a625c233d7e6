use Rattle.std.proofs.Common.{refl, ◌∙◌, ap, ◌++◌}
use Rattle.std.proofs.lemmas.Result.{on_ok_weaker}
use Rattle.quantum_sched.specs.Rows.{starts_of, thread_at}
use Rattle.quantum_sched.proofs.Edits.{as_it_was}
use Rattle.quantum_sched.proofs.start.prepare_at.Goals as goal

pub returns-in-Some-clause-ok : goal.returns-in-Some-clause-ok
returns-in-Some-clause-ok c =
    let m = c.args.caller.now.memory in
    on_ok_weaker c.prepare_waiting.result (λ e. e ∙ ap (λ o. c.args.prepared.now.items ++ starts_of m (thread_at c.args.number o)) c.in-Some.ensures.value) c.prepare_waiting.ensures.ok

pub returns-in-Some-clause-same : goal.returns-in-Some-clause-same
returns-in-Some-clause-same c = as_it_was c.args.number c.in-Some.child.now c.prepare_waiting.new.child c.args.children.now _ c.in-Some.ensures.value refl c.prepare_waiting.ensures.same
