-- What a run tells of a path at which it has come to the end.
use Rattle.std.proofs.Common.{◌≡◌, ℕ, ◌≤◌, Bool, true, false, List, refl, sym, ◌∙◌, subst}
use Rattle.std.specs.Prelude.{not}
use Rattle.space_model.specs.Space.{Space}
use Rattle.space_model.specs.Sound.{IsSound}
use Rattle.explain_core.specs.declared.lineages.LineageRun.{LineageRun}
use Rattle.explain_core.specs.declared.watch_list.WatchList.{WatchList}
use Rattle.explain_core.specs.declared.watching.Watched.{Watched}
use Rattle.explain_core.specs.Beside.{all}
use Rattle.explain_core.specs.Going.{WayStopped}
use Rattle.explain_core.specs.Lineage.{NotedLink, TellsLineage, count_of, events_told, told_links}
use Rattle.explain_core.specs.LineageRun.{TellsRun}
use Rattle.explain_core.specs.Notes.{TellsAll, note_at}
use Rattle.explain_core.specs.Reached.{HasSoMany}
use Rattle.explain_core.specs.WatchList.{watched_at}
use Rattle.explain_core.proofs.LinksTell.{count_alike, told_lineage}
use Rattle.explain_core.proofs.Walked.{count_of_all, links_of_all}

pub lineage_told : (root : Space) (r : LineageRun) (w : Watched) (p : List ℕ) (links : List NotedLink) → watched_at r.list.wanted.entries p ≡ w → IsSound root → TellsRun root r → r.lost ≡ false → WayStopped p r.tree
    → count_of (note_at r.notes.entries p) ≤ all → links ≡ told_links p w (note_at r.notes.entries p) → TellsLineage root w p all links
lineage_told root r w p links here sound tells found still few is =
    subst (TellsLineage root w p all) (sym is) (told_lineage root w p all (note_at r.notes.entries p) (links_of_all root r.tree (watched_at r.list.wanted.entries) w p r.notes.entries here sound (tells found) still few))

pub count_told : (root : Space) (r : LineageRun) (w : Watched) (p : List ℕ) (links : List NotedLink) → IsSound root → TellsRun root r → r.lost ≡ false → WayStopped p r.tree
    → count_of (note_at r.notes.entries p) ≤ all → links ≡ told_links p w (note_at r.notes.entries p) → HasSoMany root p (events_told links)
count_told root r w p links sound tells found still few is =
    subst (λ ls. HasSoMany root p (events_told ls)) (sym is)
    (subst (HasSoMany root p) (sym (count_alike p w (note_at r.notes.entries p))) (count_of_all root r.tree (watched_at r.list.wanted.entries) p r.notes.entries sound (tells found) still few))

-- a run goes on, and gives no answer any more unless it has come to the end
pub come_on : (root : Space) (old new : LineageRun) (over : Bool) → old.lost ≡ false → new.lost ≡ not over → new.list ≡ old.list
    → (over ≡ true → (r : Space) → TellsAll r (watched_at old.list.wanted.entries) old.notes.entries old.tree → TellsAll r (watched_at old.list.wanted.entries) new.notes.entries new.tree) → TellsRun root old → TellsRun root new
come_on root old new over found lost same goes tells still =
    subst (λ (l : WatchList). TellsAll root (watched_at l.wanted.entries) new.notes.entries new.tree) (sym same) (goes (is_over over (sym lost ∙ still)) root (tells found))
  where
    is_over : (b : Bool) → not b ≡ false → b ≡ true
    is_over true e = refl
    is_over false e = cc
