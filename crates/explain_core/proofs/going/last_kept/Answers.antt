use Rattle.std.proofs.Common.{arith, refl, subst}
use Rattle.explain_core.specs.declared.watching.Asked.{Asked}
use Rattle.explain_core.specs.declared.watching.Noticing.TheVariants.{Change}
use Rattle.explain_core.specs.Reached.{TellsMoment}
use Rattle.explain_core.specs.Watch.{kept_of}
use Rattle.explain_core.proofs.Coming.{from_nothing}
use Rattle.explain_core.proofs.LastChange.{moment_kept}
use Rattle.explain_core.proofs.going.last_kept.Goals as goal

pub returns : goal.returns
returns c =
    let same = c.in_ok-copied.ensures in
    let asked : Asked = record { path = c.in_ok-copied.field-0; from = 1; to = c.args.to; noticing = Change c.args.watched } in
    let come = from_nothing c.args.tree c.go_as_asked.new.tree c.in_ok-copied.field-0.items asked c.args.to c.in_ok-go_as_asked.field-0 (kept_of c.new-kept.result) (kept_of c.go_as_asked.new.kept) c.new-kept.ensures c.in_ok-go_as_asked.ensures in
    subst (λ p. TellsMoment c.args.tree p c.args.to c.args.watched c.go_as_asked.new.kept.last) same
    (moment_kept c.args.tree c.go_as_asked.new.tree c.in_ok-copied.field-0.items asked c.args.watched c.in_ok-go_as_asked.field-0 c.go_as_asked.new.kept refl (omega arith) c.requires.sound come)
