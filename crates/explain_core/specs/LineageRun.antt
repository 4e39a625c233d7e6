-- A run in which the lineages of many paths are found.
-- Our choice: a restatement for proofs.
use Rattle.std.specs.Prelude.{◌≡◌, false}
use Rattle.space_model.specs.Space.{Space}
use Rattle.explain_core.specs.declared.lineages.LineageRun.{LineageRun}
use Rattle.explain_core.specs.Notes.{TellsAll}
use Rattle.explain_core.specs.WatchList.{watched_at}

-- it has come from a tree by a schedule in which its notes tell of every path, unless it gives no answer any more
abbrev pub TellsRun : Space → LineageRun → Type 0
TellsRun root r = r.lost ≡ false → TellsAll root (watched_at r.list.wanted.entries) r.notes.entries r.tree
