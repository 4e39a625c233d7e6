use Rattle.space_model.specs.Space.{Space}
use Rattle.explain_core.specs.Notes.{TellsAll}
use Rattle.explain_core.specs.WatchList.{watched_at}
use Rattle.explain_core.proofs.walking.walk.Given as goal

abbrev pub invariant-turns : goal.invariant-turns
invariant-turns l = (root : Space) → TellsAll root (watched_at l.list.wanted.entries) l.fn.notes.entries l.fn.tree → TellsAll root (watched_at l.list.wanted.entries) l.notes.entries l.tree
