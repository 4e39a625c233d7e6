use Rattle.std.proofs.Common.{◌+◌, ◌-◌, refl, ap}
use Rattle.explain_core.specs.declared.watching.Asked.{Asked}
use Rattle.explain_core.specs.declared.watching.Noticing.TheVariants.{Lines}
use Rattle.explain_core.specs.Watch.{kept_of}
use Rattle.explain_core.proofs.Endings.{lines_told, others}
use Rattle.explain_core.proofs.ending.last_lines.Goals as goal

pub returns-then-left-eq1-clause-some : goal.returns-then-left-eq1-clause-some
returns-then-left-eq1-clause-some c = λ start w kept sound h.
    let asked : Asked = record { path = c.in_ok-copied.field-0; from = c.saturating_sub.result; to = c.args.count + 1; noticing = Lines } in
    lines_told start c.args.tree c.go_on.new.tree c.args.path.now.items asked c.args.count (c.args.count + 1 - c.saturating_sub-2.result) c.in_ok-left.left w kept (kept_of c.new-kept.result) c.go_on.new.kept
    sound c.in_ok-copied.ensures refl refl c.saturating_sub.ensures (ap (λ n. c.args.count + 1 - n) c.saturating_sub-2.ensures) c.requires.count c.new-kept.ensures c.if-left-eq1.true h c.in_ok-left.ensures

pub returns-clause-none : goal.returns-clause-none
returns-clause-none c = λ none start w kept sound h.
    let asked : Asked = record { path = c.in_ok-copied.field-0; from = c.saturating_sub.result; to = c.args.count + 1; noticing = Lines } in
    others start c.args.tree c.go_on.new.tree c.args.path.now.items asked c.args.count (c.args.count + 1 - c.saturating_sub-2.result) c.in_ok-left.left w kept (kept_of c.new-kept.result) (kept_of c.go_on.new.kept)
    sound c.in_ok-copied.ensures refl c.saturating_sub.ensures (ap (λ n. c.args.count + 1 - n) c.saturating_sub-2.ensures) c.requires.count c.new-kept.ensures c.if-left-eq1.false h c.in_ok-left.ensures
