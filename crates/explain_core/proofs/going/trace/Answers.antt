use Rattle.std.proofs.Common.{refl, subst}
use Rattle.explain_core.specs.declared.watching.Asked.{Asked}
use Rattle.explain_core.specs.declared.watching.Noticing.TheVariants.{Lines}
use Rattle.explain_core.specs.Reached.{IsTrace}
use Rattle.explain_core.specs.Watch.{kept_of}
use Rattle.explain_core.proofs.Coming.{from_nothing, is_trace}
use Rattle.explain_core.proofs.going.trace.Goals as goal

pub returns : goal.returns
returns c =
    let same = c.in_ok-copied.ensures in
    let asked : Asked = record { path = c.in_ok-copied.field-0; from = c.args.from; to = c.args.to; noticing = Lines } in
    let come = from_nothing c.args.tree c.go_as_asked.new.tree c.in_ok-copied.field-0.items asked c.args.to c.in_ok-go_as_asked.field-0 (kept_of c.new-kept.result) (kept_of c.go_as_asked.new.kept) c.new-kept.ensures c.in_ok-go_as_asked.ensures in
    subst (λ p. IsTrace c.args.tree p c.args.from c.args.to c.go_as_asked.new.kept.lines.items) same
    (is_trace c.args.tree c.go_as_asked.new.tree c.in_ok-copied.field-0.items asked c.in_ok-go_as_asked.field-0 (kept_of c.go_as_asked.new.kept) refl refl c.requires.sound come)
