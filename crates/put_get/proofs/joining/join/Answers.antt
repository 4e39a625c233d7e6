use Rattle.std.proofs.Common.{◌∙◌, ap, sym}
use Rattle.std.proofs.lemmas.Result.{on_ok_weaker}
use Rattle.merge_model.specs.Merge.{with_merge}
use Rattle.call_model.specs.Block.{block_bytes}
use Rattle.space_model.specs.Part.{destination_page, page_count}
use Rattle.space_model.specs.Space.{Top}
use Rattle.space_mem.specs.Held.{memory_in}
use Rattle.space_tree.specs.contracts.top.Top.{the_view}
use Rattle.put_get.specs.Ranges.{permitted, told}
use Rattle.put_get.proofs.Parts.{joined}
use Rattle.put_get.proofs.joining.join.Goals as goal

pub returns-in-Some-clause-ok : goal.returns-in-Some-clause-ok
returns-in-Some-clause-ok c =
    let x = c.args.x.now in
    let s = c.in-Some.snapshot.memory in
    let block = c.write_block-block.result in
    let t : Top = the_view c.caller.inside in
    let d : Top = the_view c.child.inside in
    let g : Top → Top → Top = λ u v. record u { memory = told x block (permitted x (with_merge s v.memory u.memory (destination_page x) (page_count x))) } in
    on_ok_weaker c.merge_pages.result
    (λ e. joined x c.args.child.now c.args.caller.now _ s block c.requires.transfer.changes c.requires.merges (ap (λ u. u.snapshot) (sym c.child.view_is) ∙ ap memory_in c.in-Some.is) (c.write_block-block.ensures.bytes ∙ ap block_bytes c.block.ensures)
    (ap (λ m. record t { memory = m }) e ∙ ap (λ u. g u d) c.caller.view_is ∙ ap (g c.args.caller.now) c.child.view_is))
    c.merge_pages.ensures.ok
