-- Runs that answer for many spaces: what each tells, and what all of them tell.
use Rattle.std.proofs.Common.{◌≡◌, ℕ, zero, suc, ◌<◌, List, [], ◌∷◌, ◌++◌, length, Option, Some, None, Result, Ok, Err, IfOk, sym, subst, arith}
use Rattle.std.specs.Prelude.{slice_index_or, slice_set}
use Rattle.space_model.specs.Space.{Space}
use Rattle.explain_core.specs.declared.lineages.LineageRun.{LineageRun}
use Rattle.explain_core.specs.Lineage.{NotedLink, TellsLineage}
use Rattle.explain_core.specs.LineageRun.{TellsRun}
use Rattle.explain_why.specs.Runs.{TellAll, TellsLineageOf, watched_by}
use Rattle.explain_why.specs.Why.{all_events}

pub tell_at : (root : Space) (rs : List LineageRun) (k : ℕ) (d : LineageRun) → k < length rs → TellAll root rs → TellsRun root (slice_index_or rs k d)
tell_at root [] k d within tell = absurd (omega (arith, within))
tell_at root (r ∷ rs) zero d within tell = tell.0
tell_at root (r ∷ rs) (suc k) d within tell = tell_at root rs k d (omega (arith, within)) tell.1

pub tell_set : (root : Space) (rs : List LineageRun) (k : ℕ) (r : LineageRun) → TellAll root rs → TellsRun root r → TellAll root (slice_set rs k r)
tell_set root [] k r tell one = tt
tell_set root (q ∷ rs) zero r tell one = (one, tell.1)
tell_set root (q ∷ rs) (suc k) r tell one = (tell.0, tell_set root rs k r tell.1 one)

pub tell_push : (root : Space) (rs : List LineageRun) (r : LineageRun) → TellAll root rs → TellsRun root r → TellAll root (rs ++ r ∷ [])
tell_push root [] r tell one = (one, tt)
tell_push root (q ∷ rs) r tell one = (tell.0, tell_push root rs r tell.1 one)

-- of the register that is watched of a space that a trap has stopped
pub of_register : (root : Space) (p : List ℕ) (o : Option ℕ) (links : List NotedLink) → TellsLineage root (watched_by o) p all_events links → TellsLineageOf root p o links
of_register root p None links tells = tt
of_register root p (Some r) links tells = tells

-- the run at an index that the code has read
pub run_at : (root : Space) (rs : List LineageRun) (k : ℕ) (r : LineageRun) → r ≡ slice_index_or rs k r → k < length rs → TellAll root rs → TellsRun root r
run_at root rs k r is within tell = subst (TellsRun root) (sym is) (tell_at root rs k r within tell)

-- what holds anyway
pub if_ok_anyway : {X E : Type 0} (r : Result X E) (P : Type 0) → P → IfOk r (λ _. P)
if_ok_anyway (Ok x) P so = so
if_ok_anyway (Err e) P so = tt
