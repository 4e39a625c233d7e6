use Rattle.std.proofs.Common.{ap, sym, None, ◌∙◌}
use Rattle.space_model.specs.Space.{Top}
use Rattle.space_model.specs.Change.{after_spending, after_success, with_count}
use Rattle.space_model.specs.Commit.{commits}
use Rattle.space_model.specs.Quanta.{count_waiting, writings}
use Rattle.quantum_model.specs.Rows.{threads_in, with_commit}
use Rattle.quantum_sched.specs.Rows.{renewals_of, with_each}
use Rattle.quantum_sched.proofs.Edits.{commit_met}
use Rattle.quantum_sched.proofs.commit.qcommit.Goals as goal

pub returns-clause-ok : goal.returns-clause-ok
returns-clause-ok c =
    let t = c.space.inside.top in
    let n = c.count_waiting-waiting in
    let first = c.args.first in
    let count = c.from-count.result in
    let v : Top = record t { memory = c.commit_row.new.caller.memory } in
    let row = c.in_ok-commit_row.ensures in
    let written = row.ok ∙ ap (λ x. commits x.top.memory (writings (threads_in first count x.children))) c.space-inside.view_is in
    let renewed = row.renewed ∙ ap (λ x. with_each None (renewals_of (threads_in first count x.children)) x.children) c.space-inside.view_is in
    let counted = n.ensures ∙ ap (λ x. count_waiting (threads_in first count x.children)) c.space-inside.view_is in
    let paid = c.pay.ensures ∙ ap (λ x. let u : Top = x.top in let w : Top = record u { memory = c.commit_row.new.caller.memory } in after_spending 1 w w) c.space-inside.view_is in
    commit_met first count c.args.space.now t v c.finish.new.self c.space.inside.children c.commit_row.new.children (sym c.space.view_is) (ap (λ m. record t { memory = m }) written) renewed
    (c.finish.ensures ∙ ap (λ p. after_success (with_count n.result p)) paid ∙ ap (λ k. after_success (with_count k (after_spending 1 v v))) counted)
    ∙ ap (λ k. with_commit first k c.args.space.now) c.from-count.ensures
