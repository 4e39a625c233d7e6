use Rattle.std.proofs.Common.{map, sym, ap, ◌∙◌, arith}
use Rattle.explain_core.specs.declared.watch_list.WatchList.{WatchList}
use Rattle.explain_core.specs.Lineage.{noted_link}
use Rattle.explain_core.specs.WatchList.{watched_at}
use Rattle.explain_core.proofs.LineageRuns.{count_told, lineage_told}
use Rattle.explain_core.proofs.lineages.lineage_of.Goals as goal

pub returns-clause-tells : goal.returns-clause-tells
returns-clause-tells c = λ root sound tells.
    let p = c.args.path.now.items in
    let over = c.in_ok-over.ensures.over c.if-not-over.false in
    let here = ap (λ (l : WatchList). watched_at l.wanted.entries p) c.in_ok-over.ensures.list ∙ sym c.in_ok-here.ensures ∙ c.is_same.ensures c.if-not-is_same.false in
    let count = c.count_at-count.ensures in
    let fits = c.count_at-count.type_inv in
    lineage_told root c.come_to.new.run c.args.watched p (map noted_link c.in_ok-links.links.items) here sound (c.in_ok-over.ensures.run root tells) over.0 over.1 (omega (arith, count, fits)) c.in_ok-links.ensures

pub returns-clause-count : goal.returns-clause-count
returns-clause-count c = λ root sound tells.
    let over = c.in_ok-over.ensures.over c.if-not-over.false in
    let count = c.count_at-count.ensures in
    let fits = c.count_at-count.type_inv in
    count_told root c.come_to.new.run c.args.watched c.args.path.now.items (map noted_link c.in_ok-links.links.items) sound (c.in_ok-over.ensures.run root tells) over.0 over.1 (omega (arith, count, fits)) c.in_ok-links.ensures
