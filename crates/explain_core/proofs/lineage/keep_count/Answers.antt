use Rattle.std.proofs.Common.{◌+◌, ◌≤◌, ◌^◌, ◌-◌, Some, None, sym, ap, ◌∙◌, subst}
use Rattle.std.specs.Prelude.{is_some}
use Rattle.std.proofs.lemmas.Result.{on_ok_weaker}
use Rattle.explain_core.specs.Lineage.{count_of, counted}
use Rattle.explain_core.specs.Notes.{Puts, note_at}
use Rattle.explain_core.proofs.NotedPaths.{links_there, puts}
use Rattle.explain_core.proofs.lineage.keep_count.Goals as goal

pub count_more-requires : goal.count_more-requires
count_more-requires c =
    subst (λ ls. count_of ls + c.args.count ≤ 2 ^ 64 - 1) (sym (links_there c.args.notes.now.entries c.args.path.now (Some c.in-Some.links.now) c.in-Some.ensures.value)) c.requires

pub begin_count-requires : goal.begin_count-requires
begin_count-requires c =
    ap (λ m. note_at m.entries c.args.path.now.items) c.get_mut.follows.holds-at-none ∙ sym (links_there c.args.notes.now.entries c.args.path.now None c.in-None.ensures.value)

pub returns-in-Some : goal.returns-in-Some
returns-in-Some c =
    let there = links_there c.args.notes.now.entries c.args.path.now (Some c.in-Some.links.now) c.in-Some.ensures.value in
    let told = c.get_mut.follows.holds c.count_more.new.links in
    let updates = told.3 (ap is_some (sym c.in-Some.ensures.value)) in
    let behind = c.get_mut.follows.lender c.count_more.new.links in
    on_ok_weaker c.count_more.result
    (λ is. subst (λ ls. Puts c.args.path.now.items ls c.args.notes.now.entries behind.entries) (is ∙ ap (counted c.args.count) there) (puts c.args.notes.now behind c.args.path.now c.count_more.new.links updates)) c.count_more.ensures

pub returns-in-None : goal.returns-in-None
returns-in-None c =
    let none = links_there c.args.notes.now.entries c.args.path.now None c.in-None.ensures.value in
    let p = c.args.path.now.items in
    on_ok_weaker c.begin_count.result
    (λ h. subst (λ m. Puts p (counted c.args.count (note_at c.args.notes.now.entries p)) m.entries c.begin_count.new.notes.entries) c.get_mut.follows.holds-at-none
    (subst (λ ls. Puts p (counted c.args.count ls) c.get_mut.follows.lender-at-none.entries c.begin_count.new.notes.entries) none h)) c.begin_count.ensures
