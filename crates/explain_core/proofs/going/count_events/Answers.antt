use Rattle.std.proofs.Common.{◌-◌, ◌^◌, refl, subst}
use Rattle.explain_core.specs.declared.watching.Asked.{Asked}
use Rattle.explain_core.specs.declared.watching.Noticing.TheVariants.{Lines}
use Rattle.explain_core.specs.Reached.{HasSoMany}
use Rattle.explain_core.specs.Watch.{kept_of}
use Rattle.explain_core.proofs.Coming.{from_nothing, so_many}
use Rattle.explain_core.proofs.going.count_events.Goals as goal

pub returns : goal.returns
returns c =
    let same = c.in_ok-copied.ensures in
    let asked : Asked = record { path = c.in_ok-copied.field-0; from = 2 ^ 64 - 1; to = 2 ^ 64 - 1; noticing = Lines } in
    let come = from_nothing c.args.tree c.go_as_asked.new.tree c.in_ok-copied.field-0.items asked (2 ^ 64 - 1) c.in_ok-left.left (kept_of c.new-kept.result) (kept_of c.go_as_asked.new.kept) c.new-kept.ensures c.in_ok-left.ensures in
    subst (λ p. HasSoMany c.args.tree p (2 ^ 64 - 1 - c.in_ok-left.left)) same
    (so_many c.args.tree c.go_as_asked.new.tree c.in_ok-copied.field-0.items asked c.in_ok-left.left (kept_of c.go_as_asked.new.kept) refl c.requires come)
