use Rattle.std.proofs.Common.{ap, sym, Some, ◌∙◌}
use Rattle.space_model.specs.Change.{after_spending, after_success, with_count}
use Rattle.space_model.specs.Quanta.{count_waiting}
use Rattle.quantum_model.specs.Rows.{threads_in, with_start}
use Rattle.quantum_sched.specs.Rows.{starts_of, with_each}
use Rattle.quantum_sched.proofs.Edits.{start_met}
use Rattle.quantum_sched.proofs.start.qstart.Goals as goal

pub returns-clause-ok : goal.returns-clause-ok
returns-clause-ok c =
    let t = c.space.inside.top in
    let n = c.count_waiting-started in
    let first = c.args.first in
    let count = c.from-count.result in
    let started = c.in_ok-start_row.ensures.ok ∙ ap (λ x. with_each (Some c.args.quantum) (starts_of x.top.memory (threads_in first count x.children)) x.children) c.space-inside.view_is in
    let counted = n.ensures ∙ ap (λ x. count_waiting (threads_in first count x.children)) c.space-inside.view_is in
    let paid = c.pay.ensures ∙ ap (λ x. after_spending 1 x.top x.top) c.space-inside.view_is in
    start_met first count c.args.quantum c.args.space.now t c.finish.new.self c.space.inside.children c.start_row.new.children (sym (c.space.view_is ∙ c.freeze.ensures)) started
    (c.finish.ensures ∙ ap (λ p. after_success (with_count n.result p)) paid ∙ ap (λ k. after_success (with_count k (after_spending 1 t t))) counted)
    ∙ ap (λ k. with_start first k c.args.quantum c.args.space.now) c.from-count.ensures
