use Rattle.explain_core.specs.Watch.{kept_of}
use Rattle.explain_core.proofs.Coming.{none_wanted}
use Rattle.explain_core.proofs.going.go_on.Goals as goal

pub returns-then-wanted-eq0 : goal.returns-then-wanted-eq0
returns-then-wanted-eq0 c = none_wanted 8 c.args.wanted c.args.asked.now.path.items c.args.asked.now (kept_of c.args.kept.now) c.args.tree.now c.if-wanted-eq0.true
