use Rattle.std.proofs.Common.{◌-◌}
use Rattle.memory_model.specs.Sizes.{pages}
use Rattle.explain_core.proofs.Changes.{ChangesSoFar}
use Rattle.explain_core.proofs.pages.pages_between.Given as goal

abbrev pub invariant-pages : goal.invariant-pages
invariant-pages l = (let m = l.before in let n = l.after in ChangesSoFar n.memory m.memory l.changed.items l.from)

abbrev pub decreases-pages : goal.decreases-pages
decreases-pages l = pages - l.from
