use Rattle.std.proofs.Common.{◌-◌}
use Rattle.memory_model.specs.Sizes.{pages}
use Rattle.explain_core.proofs.Changes.{ChangesSoFar}
use Rattle.explain_core.proofs.pages.changed_pages.Given as goal

abbrev pub invariant-pages : goal.invariant-pages
invariant-pages l = (let m = l.memory in let s = l.snapshot in ChangesSoFar m.memory s.memory l.changed.items l.from)

abbrev pub decreases-pages : goal.decreases-pages
decreases-pages l = pages - l.from
