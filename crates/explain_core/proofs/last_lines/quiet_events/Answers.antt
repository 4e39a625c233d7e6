use Rattle.std.proofs.Common.{Some, None, IfSome, subst}
use Rattle.explain_core.specs.LastLines.{MayCount}
use Rattle.explain_core.proofs.WatchLists.{entry_there}
use Rattle.explain_core.proofs.last_lines.quiet_events.Goals as goal

pub returns-in-None : goal.returns-in-None
returns-in-None c = subst (λ o. IfSome o (MayCount 1048576)) (entry_there c.args.endings.now.entries c.args.path.now None c.in-None.ensures.value) tt

pub returns-in-Some : goal.returns-in-Some
returns-in-Some c =
    subst (λ o. IfSome o (MayCount c.events_left.result)) (entry_there c.args.endings.now.entries c.args.path.now (Some c.in-Some.ending.now) c.in-Some.ensures.value) c.events_left.ensures
