use Rattle.std.proofs.Common.{◌+◌, ◌∙◌, arith, refl}
use Rattle.space_mem.proofs.Dirty.{marks_refl, marks_then}
use Rattle.space_mem.proofs.Kept.{keeps_refl, keeps_then}
use Rattle.snapshot.proofs.Overlaid.{changed_of, same_of, is_outside, not_passed, owned_none, owned_rest, owned_turn}
use Rattle.snapshot.proofs.overlaying.own_changed.Goals as goal

pub loop-page-init : goal.loop-page-init
loop-page-init c = record {
  above = omega arith;
  within = omega arith;
  child = c.over-child_cursor.ensures;
  snapshot = c.over-snapshot_cursor.ensures;
  same = refl;
  owned = owned_none c.args.child.now.memory c.args.snapshot.now.memory c.args.parent.now c.args.range.first;
  stays = λ page owns. owns;
  kept = λ page passed. keeps_refl c.args.parent.now page;
  marks = marks_refl c.args.parent.now;
}

pub loop-page-preserved : goal.loop-page-preserved
loop-page-preserved c =
    let l = c.loop-page in
    let h = c.args.child.now in
    let s = c.args.snapshot.now in
    let first = c.args.range.first in
    let end = first + c.args.range.count in
    let page = c.in-Some.page in
    let next = changed_of _ _ h s l.from end page l.invariant.child l.invariant.snapshot c.in-Some.ensures.some in
    let own = c.in_ok-own.ensures in
    record {
      above = omega (arith, next.changed.above, l.invariant.above);
      within = omega (arith, next.changed.below);
      child = c.next_changed.ensures.same_child ∙ l.invariant.child;
      snapshot = c.next_changed.ensures.same_snapshot ∙ l.invariant.snapshot;
      same = own.same ∙ l.invariant.same;
      owned = owned_turn h.memory s.memory l.parent c.own.new.self first l.from page l.invariant.owned next.same own.stays (own.owned page (omega arith) (omega arith));
      stays = λ n owns. own.stays n (l.invariant.stays n owns);
      kept = λ n passed. keeps_then c.args.parent.now l.parent c.own.new.self n (l.invariant.kept n passed) (own.outside n (is_outside page n (not_passed h s.memory first l.from end page n l.invariant.above next.changed passed)));
      marks = marks_then c.args.parent.now l.parent c.own.new.self l.invariant.marks own.marks;
    }

pub returns-clause-owned : goal.returns-clause-owned
returns-clause-owned c =
    let l = c.loop-page in
    let h = c.args.child.now in
    let s = c.args.snapshot.now in
    owned_rest h.memory s.memory l.parent c.args.range.first l.from (c.args.range.first + c.args.range.count) l.invariant.owned (same_of _ _ h s l.from _ l.invariant.child l.invariant.snapshot (c.in_default.ensures.none refl))
