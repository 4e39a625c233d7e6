use Rattle.std.proofs.Common.{ℕ, None, Option, refl, sym, ap, ◌∙◌}
use Rattle.space_mem.specs.Held.{Held}
use Rattle.node_parcel.specs.AtOnce.{with_run}
use Rattle.node_parcel.proofs.AtOnce.{on_ok, without_bytes}
use Rattle.node_parcel.proofs.OneNumber.{both_ok, more_held, more_before, still_held, still_before}
use Rattle.node_parcel.proofs.runs.Placing.put_run.Goals as goal

pub returns-in-None-clause-memory : goal.returns-in-None-clause-memory
returns-in-None-clause-memory c =
    let before = c.args.self.now in
    on_ok c.set_perm.result
    (λ e.
    ap (λ (h : Held). h.memory) e
    ∙ without_bytes c.args.known.now before.memory.memory before.run.first before.run.permission before.run.count
    ∙ ap (λ (o : Option ℕ). with_run c.args.known.now before.memory.memory before.run.first before.run.permission o before.run.count) (sym c.in-None.is))
    c.set_perm.ensures.ok

pub returns-in-None-clause-held : goal.returns-in-None-clause-held
returns-in-None-clause-held c =
    let before = c.args.self.now in
    on_ok c.set_perm.result
    (λ e page put. still_held c.args.known.now before c.set_perm.new.self.memory None page put (ap (λ (h : Held). h.memory) e ∙ without_bytes c.args.known.now before.memory.memory before.run.first before.run.permission before.run.count))
    c.set_perm.ensures.ok

pub returns-in-None-clause-before : goal.returns-in-None-clause-before
returns-in-None-clause-before c = on_ok c.set_perm.result (λ e page put. still_before c.args.known.now c.args.self.now page put) c.set_perm.ensures.ok

pub returns-in-Some-clause-held : goal.returns-in-Some-clause-held
returns-in-Some-clause-held c =
    on_ok c.put_span.result
    (λ h page put. more_held c.args.known.now c.args.self.now c.put_span.new.self.memory.memory c.put_span.new.self.spans.items _ page put h.1 h.0 refl)
    (both_ok c.put_span.result _ _ c.put_span.ensures.memory c.put_span.ensures.spans)

pub returns-in-Some-clause-before : goal.returns-in-Some-clause-before
returns-in-Some-clause-before c = on_ok c.put_span.result (λ h page put. more_before c.args.known.now c.args.self.now c.put_span.new.self.spans.items _ page put h refl refl) c.put_span.ensures.spans
