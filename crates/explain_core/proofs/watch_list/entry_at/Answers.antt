use Rattle.std.proofs.Common.{Some, None}
use Rattle.explain_core.proofs.WatchLists.{entry_there}
use Rattle.explain_core.proofs.watch_list.entry_at.Goals as goal

pub returns-in-Some : goal.returns-in-Some
returns-in-Some c = entry_there c.args.list.now.wanted.entries c.args.path.now (Some c.in-Some.watched.now) c.in-Some.ensures.value

pub returns-in-None : goal.returns-in-None
returns-in-None c = entry_there c.args.list.now.wanted.entries c.args.path.now None c.in-None.ensures.value
