use Rattle.std.proofs.Common.{ℕ, ◌≡◌, ◌+◌, ◌*◌, arith, refl, subst, ◌∙◌}
use Rattle.std.proofs.lemmas.Result.{err_from_is_err_and}
use Rattle.space_mem.specs.Held.{Held, IsClean}
use Rattle.snapshot.specs.Pages.{ArePassed, IsNextToMerge, SameBytes}
use Rattle.snapshot.proofs.Conflicts.{none_join, none_unchanged, fails_at}
use Rattle.snapshot.proofs.Sorted.{sorted_none, sorted_passed, sorted_put}
use Rattle.snapshot.proofs.changes.find_changes.Goals as goal

-- what the next page of two cursors is of their memories
pub next_of : (child snapshot h s : Held) (from end page : ℕ) → child ≡ h → snapshot ≡ s → IsNextToMerge child.memory snapshot.memory from end page → IsNextToMerge h.memory s.memory from end page
next_of child snapshot h s from end page of_child of_snapshot next = subst (λ (k : Held). IsNextToMerge k.memory s.memory from end page) of_child (subst (λ (k : Held). IsNextToMerge child.memory k.memory from end page) of_snapshot next)

-- and where there is none
pub none_of : (child snapshot h s : Held) (from end : ℕ) → child ≡ h → snapshot ≡ s → SameBytes child.memory snapshot.memory from end → SameBytes h.memory s.memory from end
none_of child snapshot h s from end of_child of_snapshot none = subst (λ (k : Held). SameBytes k.memory s.memory from end) of_child (subst (λ (k : Held). SameBytes child.memory k.memory from end) of_snapshot none)

pub loop-page-init : goal.loop-page-init
loop-page-init c = record {
  above = omega arith;
  within = omega arith;
  sorted = sorted_none c.args.parent.now c.args.child.now c.args.snapshot.now.memory c.args.range.first (c.args.range.first + c.args.range.count) _ c.none-found.ensures.taken c.none-found.ensures.merged c.none-found.ensures.equal;
  child = c.over-child_cursor.ensures;
  snapshot = c.over-snapshot_cursor.ensures;
  none = λ a above below. absurd (omega arith);
}

pub returns-in_err-change-clause-conflict : goal.returns-in_err-change-clause-conflict
returns-in_err-change-clause-conflict c =
    let l = c.loop-page in
    let s = c.args.snapshot.now.memory in
    let d = c.args.child.now.memory in
    let p = c.args.parent.now.memory in
    let next = next_of _ _ c.args.child.now c.args.snapshot.now l.from (c.args.range.first + c.args.range.count) c.in-Some.page l.invariant.child l.invariant.snapshot c.in-Some.ensures.some in
    let none = none_join c.args.agree s d p _ (4096 * l.from) _ l.invariant.none (none_unchanged c.args.agree s d p l.from c.in-Some.page next.same) in
    let told = err_from_is_err_and c.from_residual.result c.from_residual.ensures.1 in
    rw (told.1, told.2) (fails_at c.args.agree s d p c.args.range.first c.args.range.count c.in-Some.page c.in_err-change.field-0.0 (omega (arith, next.above, l.invariant.above)) next.below none c.in_err-change.ensures.conflict)

pub loop-page-preserved : goal.loop-page-preserved
loop-page-preserved c =
    let l = c.loop-page in
    let h = c.args.child.now in
    let s = c.args.snapshot.now.memory in
    let p = c.args.parent.now in
    let first = c.args.range.first in
    let end = first + c.args.range.count in
    let page = c.in-Some.page in
    let next = next_of _ _ h c.args.snapshot.now l.from end page l.invariant.child l.invariant.snapshot c.in-Some.ensures.some in
    let passed = sorted_passed p h s first l.from page end l.found next.same (subst (λ k. ArePassed k l.from page) l.invariant.child c.in-Some.ensures.passed) l.invariant.sorted in
    record {
      above = omega (arith, next.above, l.invariant.above);
      within = omega (arith, next.below);
      child = c.next_page.ensures.same_child ∙ l.invariant.child;
      snapshot = c.next_page.ensures.same_snapshot ∙ l.invariant.snapshot;
      sorted = sorted_put p h s first page end l.found c.put.new.self c.in_ok-change.change (omega (arith, next.above, l.invariant.above)) next.below (omega (arith, c.args.range.within)) (subst (λ k. IsClean k page → ⊥) l.invariant.child c.in-Some.ensures.dirty)
          c.in_ok-change.ensures.change c.in_ok-put.ensures.taken c.in_ok-put.ensures.merged c.in_ok-put.ensures.equal passed;
      none = none_join c.args.agree s h.memory p.memory _ (4096 * page) _
          (none_join c.args.agree s h.memory p.memory _ (4096 * l.from) _ l.invariant.none (none_unchanged c.args.agree s h.memory p.memory l.from page next.same))
          c.in_ok-change.ensures.sure;
    }

pub returns-clause-sorted : goal.returns-clause-sorted
returns-clause-sorted c =
    let l = c.loop-page in
    let end = c.args.range.first + c.args.range.count in
    sorted_passed c.args.parent.now c.args.child.now c.args.snapshot.now.memory c.args.range.first l.from end end l.found
    (none_of _ _ c.args.child.now c.args.snapshot.now l.from end l.invariant.child l.invariant.snapshot (c.in_default.ensures.none refl))
    (subst (λ k. ArePassed k l.from end) l.invariant.child (c.in_default.ensures.all_passed refl)) l.invariant.sorted

pub returns-clause-sure : goal.returns-clause-sure
returns-clause-sure c =
    let l = c.loop-page in
    let s = c.args.snapshot.now.memory in
    let d = c.args.child.now.memory in
    none_join c.args.agree s d c.args.parent.now.memory _ (4096 * l.from) _ l.invariant.none
    (none_unchanged c.args.agree s d c.args.parent.now.memory l.from _ (none_of _ _ c.args.child.now c.args.snapshot.now l.from _ l.invariant.child l.invariant.snapshot (c.in_default.ensures.none refl)))
