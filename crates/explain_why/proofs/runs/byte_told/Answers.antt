use Rattle.std.proofs.Common.{IfSome, map, sym, subst}
use Rattle.explain_core.specs.declared.watching.Watched.TheVariants.{Byte}
use Rattle.explain_core.specs.Lineage.{TellsLineage, noted_link}
use Rattle.explain_why.specs.Runs.{StillTell}
use Rattle.explain_why.specs.Why.{all_events}
use Rattle.explain_why.proofs.RunsTell.{if_ok_anyway}
use Rattle.explain_why.proofs.runs.byte_told.Goals as goal

pub returns-in-Some-clause-told : goal.returns-in-Some-clause-told
returns-in-Some-clause-told c =
    λ root sound tell.
    let w = Byte c.args.address in
    let p = c.args.path.now.items in
    let tells = subst (λ o. IfSome o (λ v. TellsLineage root w p all_events (map noted_link v.items))) c.in-Some.is (c.in_ok-links.ensures.tells root sound tell.0) in
    c.byte_by_lineage.ensures root (subst (λ ls. TellsLineage root w p all_events (map noted_link ls)) (sym c.deref.ensures.value) tells)

pub returns-in-Some-clause-runs : goal.returns-in-Some-clause-runs
returns-in-Some-clause-runs c =
    if_ok_anyway c.byte_by_lineage.result (StillTell c.args.runs.now (record { lineages = c.lineage_in.new.runs; lines = c.args.runs.now.lines })) (λ root tell. (c.in_ok-links.ensures.runs root tell.0, tell.1))

pub returns-in-None-clause-runs : goal.returns-in-None-clause-runs
returns-in-None-clause-runs c = λ root tell. (c.in_ok-links.ensures.runs root tell.0, tell.1)
