use Rattle.std.proofs.Common.{IfSome, map, sym, subst}
use Rattle.std.proofs.lemmas.Result.{IfOk-weaker}
use Rattle.explain_core.specs.Lineage.{TellsLineage, events_told, noted_link}
use Rattle.explain_core.specs.Reached.{HasSoMany}
use Rattle.explain_why.specs.Runs.{TellsLineageOf}
use Rattle.explain_why.specs.Why.{all_events}
use Rattle.explain_why.proofs.RunsTell.{of_register}
use Rattle.explain_why.proofs.trap.told_together.Goals as goal

pub returns-in-Some-clause-told : goal.returns-in-Some-clause-told
returns-in-Some-clause-told c =
    λ root sound tell.
    let p = c.args.path.now.items in
    let ls = c.in-Some.links.items in
    let count = subst (λ o. IfSome o (λ v. HasSoMany root p (events_told (map noted_link v.items)))) c.in-Some.is (c.in_ok-links.ensures.count root sound tell.0) in
    let tells = subst (λ o. IfSome o (λ v. TellsLineage root c.trap_watched.result p all_events (map noted_link v.items))) c.in-Some.is (c.in_ok-links.ensures.tells root sound tell.0) in
    let of = of_register root p c.args.register (map noted_link ls) (subst (λ w. TellsLineage root w p all_events (map noted_link ls)) c.trap_watched.ensures tells) in
    let same = sym c.deref.ensures.value in
    c.told_by_lineage.ensures.told root (subst (λ xs. HasSoMany root p (events_told (map noted_link xs))) same count) (subst (λ xs. TellsLineageOf root p c.args.register (map noted_link xs)) same of) tell.1

pub returns-in-Some-clause-runs : goal.returns-in-Some-clause-runs
returns-in-Some-clause-runs c = IfOk-weaker c.told_by_lineage.result _ _ (λ v lines root tell. (c.in_ok-links.ensures.runs root tell.0, lines root tell.1)) c.told_by_lineage.ensures.lines

pub returns-in-None-clause-runs : goal.returns-in-None-clause-runs
returns-in-None-clause-runs c = λ root tell. (c.in_ok-links.ensures.runs root tell.0, tell.1)
