use Rattle.std.proofs.Common.{◌++◌, ◌∙◌, ap, refl, List, ℕ}
use Rattle.parcel_model.specs.Parcel.{entry_spelling}
use Rattle.parcel_model.specs.Sent.{page_of_entry}
use Rattle.node_parcel.proofs.InRows.{row_written}
use Rattle.node_parcel.proofs.Written.{left_from, all_written}
use Rattle.node_parcel.proofs.packing.put_memory.Goals as goal

pub put_row-requires-clause-page : goal.put_row-requires-clause-page
put_row-requires-clause-page c = c.in-Some.ensures.some.below

pub put_row-requires-clause-used : goal.put_row-requires-clause-used
put_row-requires-clause-used c = c.in-Some.ensures.some.used

pub loop-page-preserved : goal.loop-page-preserved
loop-page-preserved c =
    let next = c.in-Some.ensures.some in
    let done = c.in_ok-from.ensures in
    record {
      within = done.below;
      whole = ap (λ (t : List (List ℕ)). t ++ left_from page_of_entry c.args.known.now c.args.memory.now.memory c.in_ok-from.from) done.whole ∙ row_written page_of_entry c.args.known.now c.args.memory.now.memory c.loop-page.from c.in-Some.page c.in_ok-from.from c.loop-page.whole.items _ next done.above done.below c.loop-page.invariant.whole;
      written = ap (λ (t : List ℕ). t ++ left_from entry_spelling c.args.known.now c.args.memory.now.memory c.in_ok-from.from) done.written ∙ row_written entry_spelling c.args.known.now c.args.memory.now.memory c.loop-page.from c.in-Some.page c.in_ok-from.from c.loop-page.out.items _ next done.above done.below c.loop-page.invariant.written;
    }

pub returns-clause-written : goal.returns-clause-written
returns-clause-written c = all_written entry_spelling c.args.known.now c.args.memory.now.memory c.loop-page.from c.loop-page.out.items _ c.loop-page.invariant.within (c.in_default.ensures.none refl) c.loop-page.invariant.written

pub returns-clause-whole : goal.returns-clause-whole
returns-clause-whole c = all_written page_of_entry c.args.known.now c.args.memory.now.memory c.loop-page.from c.loop-page.whole.items _ c.loop-page.invariant.within (c.in_default.ensures.none refl) c.loop-page.invariant.whole
