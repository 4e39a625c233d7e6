use Rattle.explain_core.specs.WatchList.{entry_at}
use Rattle.explain_core.specs.declared.watching.Watched.TheVariants.{Register}
use Rattle.explain_core.proofs.LastLines.{fewer, of_quiet, quietly}
use Rattle.explain_core.proofs.last_lines.event_quietly.Goals as goal

pub count_quietly-requires : goal.count_quietly-requires
count_quietly-requires c = fewer (entry_at c.args.endings.now.entries c.args.path.now.items) c.in-Ok.event.count 1 c.in-Ok.ensures.one (of_quiet (entry_at c.args.endings.now.entries c.args.path.now.items) c.requires)

pub returns-in-Ok : goal.returns-in-Ok
returns-in-Ok c =
    let event = c.in-Ok.event in
    let p = c.args.path.now.items in
    let old = c.args.endings.now.entries in
    quietly c.args.tree.now c.event_at.new.tree (Register 0) p 0 event.count event.last old c.count_quietly.new.endings.entries c.in-Ok.ensures.turns (fewer (entry_at old p) event.count 1 c.in-Ok.ensures.one (of_quiet (entry_at c.args.endings.now.entries c.args.path.now.items) c.requires)) c.count_quietly.ensures
