use Rattle.std.proofs.Common.{◌+◌, ◌∙◌, arith, refl}
use Rattle.space_mem.proofs.Dirty.{marks_refl, marks_then}
use Rattle.space_mem.proofs.Kept.{keeps_refl, keeps_then}
use Rattle.snapshot.proofs.Overlaid.{changed_of, same_of, not_passed, none_overlaid, overlaid_all, overlaid_turn, owns_changed}
use Rattle.snapshot.proofs.overlaying.overlay_owned.Goals as goal

pub loop-page-init : goal.loop-page-init
loop-page-init c = record {
  above = omega arith;
  within = omega arith;
  child = c.over-child_cursor.ensures;
  snapshot = c.over-snapshot_cursor.ensures;
  overlaid = none_overlaid c.args.snapshot.now.memory c.args.child.now.memory c.args.parent.now.memory c.args.range.first c.args.range.first refl;
  stays = λ page owns. owns;
  kept = λ page passed. keeps_refl c.args.parent.now page;
  marks = marks_refl c.args.parent.now;
}

pub overlay_page-requires-clause-within : goal.overlay_page-requires-clause-within
overlay_page-requires-clause-within c =
    let l = c.loop-page in
    let next = changed_of _ _ c.args.child.now c.args.snapshot.now l.from (c.args.range.first + c.args.range.count) c.in-Some.page l.invariant.child l.invariant.snapshot c.in-Some.ensures.some in
    omega (arith, next.changed.below, c.args.range.within)

pub overlay_page-requires-clause-owned : goal.overlay_page-requires-clause-owned
overlay_page-requires-clause-owned c =
    let l = c.loop-page in
    let h = c.args.child.now in
    let s = c.args.snapshot.now in
    let end = c.args.range.first + c.args.range.count in
    let next = changed_of _ _ h s l.from end c.in-Some.page l.invariant.child l.invariant.snapshot c.in-Some.ensures.some in
    l.invariant.stays _ (owns_changed h s.memory c.args.parent.now c.args.range.first l.from end c.in-Some.page c.requires.owned l.invariant.above next.changed)

pub loop-page-preserved : goal.loop-page-preserved
loop-page-preserved c =
    let l = c.loop-page in
    let h = c.args.child.now in
    let s = c.args.snapshot.now in
    let first = c.args.range.first in
    let end = first + c.args.range.count in
    let page = c.in-Some.page in
    let next = changed_of _ _ h s l.from end page l.invariant.child l.invariant.snapshot c.in-Some.ensures.some in
    let done = c.in_ok-overlay_page.ensures in
    record {
      above = omega (arith, next.changed.above, l.invariant.above);
      within = omega (arith, next.changed.below);
      child = c.next_changed.ensures.same_child ∙ l.invariant.child;
      snapshot = c.next_changed.ensures.same_snapshot ∙ l.invariant.snapshot;
      overlaid = overlaid_turn s.memory h.memory c.args.parent.now.memory l.parent.memory c.overlay_page.new.parent.memory first l.from page l.invariant.above next.changed.above next.same l.invariant.overlaid done.ok;
      stays = λ n owns. done.stays n (l.invariant.stays n owns);
      kept = λ n passed. keeps_then c.args.parent.now l.parent c.overlay_page.new.parent n (l.invariant.kept n passed) (done.others n (not_passed h s.memory first l.from end page n l.invariant.above next.changed passed));
      marks = marks_then c.args.parent.now l.parent c.overlay_page.new.parent l.invariant.marks done.marks;
    }

pub returns-clause-ok : goal.returns-clause-ok
returns-clause-ok c =
    let l = c.loop-page in
    let h = c.args.child.now in
    let s = c.args.snapshot.now in
    overlaid_all s.memory h.memory c.args.parent.now.memory l.parent.memory c.args.range.first l.from c.args.range.count l.invariant.above l.invariant.within
    (same_of _ _ h s l.from _ l.invariant.child l.invariant.snapshot (c.in_default.ensures.none refl)) l.invariant.overlaid
