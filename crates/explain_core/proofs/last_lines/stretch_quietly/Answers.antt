use Rattle.std.proofs.Common.{subst}
use Rattle.explain_core.specs.TurnsAt.{TurnsAt}
use Rattle.explain_core.specs.WatchList.{entry_at}
use Rattle.explain_core.specs.declared.watching.Watched.TheVariants.{Register}
use Rattle.explain_core.proofs.LastLines.{fewer, quietly}
use Rattle.explain_core.proofs.last_lines.stretch_quietly.Goals as goal

pub count_quietly-requires : goal.count_quietly-requires
count_quietly-requires c =
    fewer (entry_at c.args.endings.now.entries c.args.path.now.items) c.stretch_at-stretch.result.count c.quiet_events-most.result c.stretch_at-stretch.ensures.within c.quiet_events-most.ensures

pub returns : goal.returns
returns c =
    let stretch = c.stretch_at-stretch.result in
    let p = c.args.path.now.items in
    let old = c.args.endings.now.entries in
    let may = fewer (entry_at old p) stretch.count c.quiet_events-most.result c.stretch_at-stretch.ensures.within c.quiet_events-most.ensures in
    let turns = subst (λ q. TurnsAt 8 (Register 0) q 0 stretch.count stretch.last c.args.tree.now c.stretch_at-stretch.new.space) c.as_slice.ensures.value (c.stretch_at-stretch.ensures.turns 8) in
    quietly c.args.tree.now c.stretch_at-stretch.new.space (Register 0) p 0 stretch.count stretch.last old c.count_quietly.new.endings.entries turns may c.count_quietly.ensures
