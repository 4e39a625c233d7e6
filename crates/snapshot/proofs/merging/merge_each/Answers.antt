use Rattle.std.proofs.Common.{subst}
use Rattle.std.proofs.lemmas.List.{take_all}
use Rattle.space_mem.proofs.Dirty.{marks_refl, marks_then}
use Rattle.space_mem.proofs.Kept.{keeps_refl, keeps_then}
use Rattle.snapshot.specs.Pages.{HasMerged}
use Rattle.snapshot.proofs.Merged.{merged_more, merged_none}
use Rattle.snapshot.proofs.merging.merge_each.Goals as goal

pub loop-page-init : goal.loop-page-init
loop-page-init c = record {
  merged = merged_none c.args.snapshot.now.memory c.args.child.now.memory c.args.parent.now.memory;
  stays = λ page owns. owns;
  others = λ page none. keeps_refl c.args.parent.now page;
  marks = marks_refl c.args.parent.now;
}

pub overlay_page-requires-clause-within : goal.overlay_page-requires-clause-within
overlay_page-requires-clause-within c = c.requires.within c.loop-page.page-index 0 c.loop-page-test.true

pub overlay_page-requires-clause-owned : goal.overlay_page-requires-clause-owned
overlay_page-requires-clause-owned c = c.loop-page.invariant.stays _ (c.requires.owned c.loop-page.page-index 0 c.loop-page-test.true)

pub loop-page-preserved : goal.loop-page-preserved
loop-page-preserved c =
    let before = c.loop-page.invariant in
    let done = c.in_ok-overlay_page.ensures in
    let i = c.loop-page.page-index in
    record {
      merged = merged_more c.args.snapshot.now.memory c.args.child.now.memory c.args.parent.now.memory c.loop-page.parent.memory c.overlay_page.new.parent.memory c.args.each.now i c.loop-page-test.true before.merged done.ok;
      stays = λ page owns. done.stays page (before.stays page owns);
      others = λ page none. keeps_then c.args.parent.now c.loop-page.parent c.overlay_page.new.parent page (before.others page none) (done.others page (none i 0 c.loop-page-test.true));
      marks = marks_then c.args.parent.now c.loop-page.parent c.overlay_page.new.parent before.marks done.marks;
    }

pub returns-clause-ok : goal.returns-clause-ok
returns-clause-ok c =
    subst (λ ps. HasMerged c.args.snapshot.now.memory c.args.child.now.memory c.args.parent.now.memory ps c.loop-page.parent.memory) (take_all c.loop-page.page-index c.args.each.now c.loop-page-test.false) c.loop-page.invariant.merged
