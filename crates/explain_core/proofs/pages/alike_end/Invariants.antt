use Rattle.std.proofs.Common.{◌-◌, ◌<◌, ◌≤◌}
use Rattle.memory_model.specs.Sizes.{pages}
use Rattle.space_mem.specs.Held.{HaveOnePermission}
use Rattle.explain_core.proofs.pages.alike_end.Given as goal

abbrev pub invariant-pages : goal.invariant-pages
invariant-pages l = (let m = l.memory in HaveOnePermission m.memory l.page l.end) × (l.page < l.end) × (l.end ≤ pages)

abbrev pub decreases-pages : goal.decreases-pages
decreases-pages l = pages - l.end
