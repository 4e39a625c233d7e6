use Rattle.std.proofs.Common.{Some, None, ap}
use Rattle.explain_core.specs.LastLines.{next_line}
use Rattle.explain_core.specs.WatchList.{entry_at}
use Rattle.explain_core.proofs.LastLines.{next_over, next_quiet, next_told}
use Rattle.explain_core.proofs.WatchLists.{entry_there}
use Rattle.explain_core.proofs.last_lines.next_line.Goals as goal

pub returns-in-None : goal.returns-in-None
returns-in-None c = ap next_line (entry_there c.args.endings.now.entries c.args.path.now None c.in-None.ensures.value)

pub returns-then-ending : goal.returns-then-ending
returns-then-ending c =
    let there = entry_there c.args.endings.now.entries c.args.path.now (Some c.in-Some.ending.now) c.in-Some.ensures.value in
    next_over (entry_at c.args.endings.now.entries c.args.path.now.items) c.in-Some.ending.now there c.if-ending.true

pub returns-then-ending-le2 : goal.returns-then-ending-le2
returns-then-ending-le2 c =
    let there = entry_there c.args.endings.now.entries c.args.path.now (Some c.in-Some.ending.now) c.in-Some.ensures.value in
    next_told (entry_at c.args.endings.now.entries c.args.path.now.items) c.in-Some.ending.now there c.if-ending.false c.if-ending-le2.true

pub returns-else-ending-le2 : goal.returns-else-ending-le2
returns-else-ending-le2 c =
    let there = entry_there c.args.endings.now.entries c.args.path.now (Some c.in-Some.ending.now) c.in-Some.ensures.value in
    next_quiet (entry_at c.args.endings.now.entries c.args.path.now.items) c.in-Some.ending.now there c.if-ending.false c.if-ending-le2.false
