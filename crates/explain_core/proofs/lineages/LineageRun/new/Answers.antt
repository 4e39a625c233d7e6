use Rattle.explain_core.specs.WatchList.{watched_at}
use Rattle.explain_core.proofs.Walked.{none_yet}
use Rattle.explain_core.proofs.lineages.LineageRun.new.Goals as goal

pub returns-in-Ok : goal.returns-in-Ok
returns-in-Ok c = λ still. none_yet c.args.tree (watched_at c.args.list.wanted.entries) c.new-notes.result.entries c.new-notes.ensures.empty
