-- Runs that answer for many spaces of a tree at once.
-- Our choice: a restatement for proofs.
use Rattle.std.specs.Prelude.{ℕ, IfSome, List, [], ◌∷◌, Option, Some, None}
use Rattle.space_model.specs.Space.{Space}
use Rattle.explain_core.specs.declared.lineages.LineageRun.{LineageRun}
use Rattle.explain_core.specs.declared.watching.Watched.{Watched}
use Rattle.explain_core.specs.declared.watching.Watched.TheVariants.{Register}
use Rattle.explain_core.specs.LastLines.{TellsLines}
use Rattle.explain_core.specs.Lineage.{NotedLink, TellsLineage}
use Rattle.explain_core.specs.LineageRun.{TellsRun}
use Rattle.explain_why.specs.declared.runs.Runs.{Runs}
use Rattle.explain_why.specs.Why.{all_events}

-- each has come from this tree
abbrev pub TellAll : Space → List LineageRun → Type 0
TellAll root [] = Unit {0}
TellAll root (r ∷ rs) = TellsRun root r × TellAll root rs

abbrev pub TellRuns : Space → Runs → Type 0
TellRuns root r = TellAll root r.lineages.items × IfSome r.lines (TellsLines root)

-- what they have come from they have come from still
abbrev pub StillTell : Runs → Runs → Type 0
StillTell old new = (root : Space) → TellRuns root old → TellRuns root new

-- where a register comes from, where one is asked for
abbrev pub TellsLineageOf : Space → List ℕ → Option ℕ → List NotedLink → Type 0
TellsLineageOf root p None links = Unit {0}
TellsLineageOf root p (Some r) links = TellsLineage root (Register r) p all_events links

-- what is watched of a space that a trap has stopped: the register of the address, or x0, which never changes
abbrev pub watched_by : Option ℕ → Watched
watched_by None = Register 0
watched_by (Some r) = Register r
