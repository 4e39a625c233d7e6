use Rattle.explain_core.proofs.LastLines.{finds_at}
use Rattle.explain_core.proofs.last_lines.told_event.Goals as goal

pub event_line-requires-clause-finds : goal.event_line-requires-clause-finds
event_line-requires-clause-finds c =
    finds_at c.in-Ok-Some.field-0 c.in-Ok-Some.before c.args.path.now.items c.args.tree.now c.before_at.new.tree c.in-Ok-Some.field-0-is c.before_at.ensures.same c.in-Ok-Some.ensures.some
