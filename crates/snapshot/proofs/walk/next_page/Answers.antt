use Rattle.std.proofs.Common.{◌+◌, arith, refl, subst, ◌∙◌}
use Rattle.memory_model.specs.Ranges.{IsZeroPage}
use Rattle.space_mem.specs.Held.{Held, AllClean, AllZero, IsNextDirty}
use Rattle.snapshot.proofs.Lists.{same_clean, same_join, same_less, same_zero, zero_more}
use Rattle.snapshot.proofs.Unmarked.{passed_clean, passed_less, passed_zero}
use Rattle.snapshot.proofs.walk.next_page.Goals as goal

pub returns-then-keeps-clause-some : goal.returns-then-keeps-clause-some
returns-then-keeps-clause-some c =
    let h = c.args.child.now in
    let s = c.args.snapshot.now.memory in
    let at = c.loop-dirty.at in
    let dirty = subst (λ k. IsNextDirty k at c.in-Some.dirty) c.loop-dirty.invariant.child c.in-Some.ensures.some in
    record {
      above = omega (arith, dirty.above, c.loop-dirty.invariant.above);
      below = omega arith;
      same = same_join h.memory s c.args.from at c.in-Some.dirty c.loop-dirty.invariant.same
          (same_clean h s at c.in-Some.dirty c.requires.covers dirty.clean (omega (arith, dirty.below)));
    }

pub loop-dirty-preserved : goal.loop-dirty-preserved
loop-dirty-preserved c =
    let h = c.args.child.now in
    let s = c.args.snapshot.now.memory in
    let at = c.loop-dirty.at in
    let page = c.in-Some.dirty in
    let is_child = c.loop-dirty.invariant.child in
    let is_snapshot = c.loop-dirty.invariant.snapshot in
    let end = c.min-at.result in
    let of_child = c.next_kept.ensures in
    let of_snapshot = c.next_kept-in-Some.ensures in
    let dirty = subst (λ k. IsNextDirty k at page) is_child c.in-Some.ensures.some in
    let first_child = subst (λ (k : Held). IsZeroPage k.memory page) is_child (c.keeps.ensures c.if-keeps.false) in
    let first_snapshot = subst (λ (k : Held). IsZeroPage k.memory page) is_snapshot (c.keeps-else-keeps.ensures c.if-keeps-2.false) in
    let zero_child = subst (λ (k : Held). AllZero k.memory (page + 1) c.next_kept.result) is_child of_child.zero in
    let zero_snapshot = subst (λ (k : Held). AllZero k.memory (page + 1) c.next_kept-in-Some.result) is_snapshot of_snapshot.zero in
    record {
      above = omega (arith, of_child.above, of_snapshot.above, c.min-at.ensures, dirty.above, c.loop-dirty.invariant.above);
      same = same_join h.memory s c.args.from at end c.loop-dirty.invariant.same
          (same_join h.memory s at page end (same_clean h s at page c.requires.covers dirty.clean (omega (arith, dirty.below)))
          (same_zero h.memory s page end
          (zero_more h.memory page c.next_kept.result end first_child zero_child (omega (arith, c.min-at.ensures)))
          (zero_more s page c.next_kept-in-Some.result end first_snapshot zero_snapshot (omega (arith, c.min-at.ensures)))));
      passed = passed_zero h c.args.from page end (passed_clean h c.args.from at page c.loop-dirty.invariant.passed dirty.clean)
          (zero_more h.memory page c.next_kept.result end first_child zero_child (omega (arith, c.min-at.ensures)));
      child = of_child.same ∙ is_child;
      snapshot = of_snapshot.same ∙ is_snapshot;
    }

pub returns-then-dirty-end-clause-none : goal.returns-then-dirty-end-clause-none
returns-then-dirty-end-clause-none c _ =
    let h = c.args.child.now in
    let s = c.args.snapshot.now.memory in
    let at = c.loop-dirty.at in
    let dirty = subst (λ k. IsNextDirty k at c.in-Some.dirty) c.loop-dirty.invariant.child c.in-Some.ensures.some in
    same_less h.memory s c.args.from c.args.end c.in-Some.dirty (omega arith)
    (same_join h.memory s c.args.from at c.in-Some.dirty c.loop-dirty.invariant.same (same_clean h s at c.in-Some.dirty c.requires.covers dirty.clean (omega (arith, dirty.below))))

pub returns-clause-none : goal.returns-clause-none
returns-clause-none c _ =
    let h = c.args.child.now in
    let s = c.args.snapshot.now.memory in
    let at = c.loop-dirty.at in
    same_less h.memory s c.args.from c.args.end 1048576 (omega (arith, c.requires.within))
    (same_join h.memory s c.args.from at 1048576 c.loop-dirty.invariant.same
    (same_clean h s at 1048576 c.requires.covers (subst (λ k. AllClean k at 1048576) c.loop-dirty.invariant.child (c.in_default.ensures.none refl)) (omega arith)))

pub returns-then-keeps-clause-passed : goal.returns-then-keeps-clause-passed
returns-then-keeps-clause-passed c =
    let dirty = subst (λ k. IsNextDirty k c.loop-dirty.at c.in-Some.dirty) c.loop-dirty.invariant.child c.in-Some.ensures.some in
    passed_clean c.args.child.now c.args.from c.loop-dirty.at c.in-Some.dirty c.loop-dirty.invariant.passed dirty.clean

pub returns-then-dirty-end-clause-all_passed : goal.returns-then-dirty-end-clause-all_passed
returns-then-dirty-end-clause-all_passed c _ =
    let dirty = subst (λ k. IsNextDirty k c.loop-dirty.at c.in-Some.dirty) c.loop-dirty.invariant.child c.in-Some.ensures.some in
    passed_less c.args.child.now c.args.from c.args.end c.in-Some.dirty (omega arith)
    (passed_clean c.args.child.now c.args.from c.loop-dirty.at c.in-Some.dirty c.loop-dirty.invariant.passed dirty.clean)

pub returns-clause-all_passed : goal.returns-clause-all_passed
returns-clause-all_passed c _ =
    passed_less c.args.child.now c.args.from c.args.end 1048576 (omega (arith, c.requires.within))
    (passed_clean c.args.child.now c.args.from c.loop-dirty.at 1048576 c.loop-dirty.invariant.passed (subst (λ k. AllClean k c.loop-dirty.at 1048576) c.loop-dirty.invariant.child (c.in_default.ensures.none refl)))
