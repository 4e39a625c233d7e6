use Rattle.std.proofs.Common.{refl, ◌∙◌, ap, ◌++◌}
use Rattle.std.proofs.lemmas.Result.{on_ok_weaker}
use Rattle.quantum_sched.specs.Rows.{renewals_of, thread_at}
use Rattle.quantum_sched.proofs.Edits.{as_it_was}
use Rattle.quantum_sched.proofs.commit.prepare_at.Goals as goal

pub returns-in-Some-clause-ok : goal.returns-in-Some-clause-ok
returns-in-Some-clause-ok c =
    on_ok_weaker c.prepare_child.result (λ e. e ∙ ap (λ o. c.args.prepared.now.items ++ renewals_of (thread_at c.args.number o)) c.in-Some.ensures.value) c.prepare_child.ensures.ok

pub returns-in-Some-clause-same : goal.returns-in-Some-clause-same
returns-in-Some-clause-same c = as_it_was c.args.number c.in-Some.child.now c.prepare_child.new.child c.args.children.now _ c.in-Some.ensures.value refl c.prepare_child.ensures.same
