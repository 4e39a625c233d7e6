use Rattle.std.proofs.Common.{subst}
use Rattle.explain_core.specs.Ending.{AsksChange}
use Rattle.explain_core.specs.Watch.{kept_of}
use Rattle.explain_core.proofs.Endings.{too_few}
use Rattle.explain_core.proofs.ending.go_before.Goals as goal

pub returns-else-left-eq0-clause-none : goal.returns-else-left-eq0-clause-none
returns-else-left-eq0-clause-none c = λ none.
    let asks = subst (λ n. AsksChange c.args.path.now.items n c.args.watched c.in_ok-asked.asked) c.saturating_sub.ensures c.in_ok-asked.ensures in
    too_few c.args.tree.now c.go_as_asked.new.tree c.args.path.now.items c.in_ok-asked.asked c.args.count c.in_ok-left.left c.args.watched (kept_of c.new-kept.result) (kept_of c.go_as_asked.new.kept)
    c.requires asks c.new-kept.ensures c.if-left-eq0.false c.in_ok-left.ensures
