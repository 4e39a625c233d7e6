use Rattle.std.proofs.Common.{refl, arith}
use Rattle.node_parcel.proofs.InRows.{row_counted}
use Rattle.node_parcel.proofs.Written.{all_counted}
use Rattle.node_parcel.proofs.packing.count_pages.Goals as goal

pub used_end-from-requires-clause-page : goal.used_end-from-requires-clause-page
used_end-from-requires-clause-page c = c.in-Some.ensures.some.below

pub used_end-from-requires-clause-used : goal.used_end-from-requires-clause-used
used_end-from-requires-clause-used c = c.in-Some.ensures.some.used

pub loop-page-preserved : goal.loop-page-preserved
loop-page-preserved c =
    let next = c.in-Some.ensures.some in
    let so_far = c.loop-page.invariant in
    let end = c.used_end-from.ensures in
    record {
      within = end.below;
      few = omega (arith, so_far.few, next.from, end.above);
      counted = λ known. row_counted known c.args.memory.now.memory c.loop-page.from c.in-Some.page c.used_end-from.result c.loop-page.count _ next end.above end.below end.used (so_far.counted known);
    }

pub returns : goal.returns
returns c = λ known. all_counted known c.args.memory.now.memory c.loop-page.from c.loop-page.count _ c.loop-page.invariant.within (c.in_default.ensures.none refl) (c.loop-page.invariant.counted known)
