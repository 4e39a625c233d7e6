use Rattle.std.proofs.Common.{◌≡◌, ℕ, ◌+◌, arith, subst, ◌∙◌, refl}
use Rattle.space_mem.specs.Held.{Held, IsClean, SamePage}
use Rattle.snapshot.specs.Pages.{IsNextToMerge}
use Rattle.snapshot.proofs.Lists.{same_join}
use Rattle.snapshot.proofs.Overlaid.{same_of}
use Rattle.snapshot.proofs.overlaying.next_changed.Goals as goal

-- what the next page of two cursors is of the memories that they had at first
next_of : (child snapshot h s : Held) (from end page : ℕ) → child ≡ h → snapshot ≡ s → IsNextToMerge child.memory snapshot.memory from end page → IsNextToMerge h.memory s.memory from end page
next_of child snapshot h s from end page of_child of_snapshot next = subst (λ (k : Held). IsNextToMerge k.memory s.memory from end page) of_child (subst (λ (k : Held). IsNextToMerge child.memory k.memory from end page) of_snapshot next)

differs_of : (child snapshot h s : Held) (page : ℕ) → child ≡ h → snapshot ≡ s → (SamePage child.memory snapshot.memory page → ⊥) → SamePage h.memory s.memory page → ⊥
differs_of child snapshot h s page of_child of_snapshot differs = subst (λ (k : Held). SamePage k.memory s.memory page → ⊥) of_child (subst (λ (k : Held). SamePage child.memory k.memory page → ⊥) of_snapshot differs)

pub returns-then-has_changed-clause-some : goal.returns-then-has_changed-clause-some
returns-then-has_changed-clause-some c =
    let h = c.args.child.now in
    let s = c.args.snapshot.now in
    let l = c.loop-page in
    let page = c.in-Some.page in
    let next = next_of _ _ h s l.at c.args.end page l.invariant.child l.invariant.snapshot c.in-Some.ensures.some in
    record {
      changed = record {
        above = omega (arith, next.above, l.invariant.above);
        below = next.below;
        dirty = subst (λ k. IsClean k page → ⊥) l.invariant.child c.in-Some.ensures.dirty;
        differs = differs_of _ _ h s page (c.next_page.ensures.same_child ∙ l.invariant.child) (c.next_page.ensures.same_snapshot ∙ l.invariant.snapshot) (c.has_changed.ensures.differs c.if-has_changed.true);
      };
      same = same_join h.memory s.memory c.args.from l.at page l.invariant.same next.same;
    }

pub loop-page-preserved : goal.loop-page-preserved
loop-page-preserved c =
    let h = c.args.child.now in
    let s = c.args.snapshot.now in
    let l = c.loop-page in
    let page = c.in-Some.page in
    let next = next_of _ _ h s l.at c.args.end page l.invariant.child l.invariant.snapshot c.in-Some.ensures.some in
    record {
      above = omega (arith, next.above, l.invariant.above);
      same = same_join h.memory s.memory c.args.from l.at (page + 1) l.invariant.same
          (same_join h.memory s.memory l.at page (page + 1) next.same
          (same_of _ _ h s page (page + 1) (c.next_page.ensures.same_child ∙ l.invariant.child) (c.next_page.ensures.same_snapshot ∙ l.invariant.snapshot) (c.has_changed.ensures.same c.if-has_changed.false)));
      child = c.next_page.ensures.same_child ∙ l.invariant.child;
      snapshot = c.next_page.ensures.same_snapshot ∙ l.invariant.snapshot;
    }

pub returns-clause-none : goal.returns-clause-none
returns-clause-none c _ =
    let h = c.args.child.now in
    let s = c.args.snapshot.now in
    let l = c.loop-page in
    same_join h.memory s.memory c.args.from l.at c.args.end l.invariant.same (same_of _ _ h s l.at c.args.end l.invariant.child l.invariant.snapshot (c.in_default.ensures.none refl))
