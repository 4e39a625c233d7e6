use Rattle.std.proofs.Common.{ℕ, ◌∙◌, ap, arith, subst}
use Rattle.space_mem.specs.Held.{Held}
use Rattle.node_parcel.proofs.Marks.{IsMarked, none_marked, known_same, all_same, one_behind, passes_same, marks_one}
use Rattle.node_parcel.proofs.marking.mark_differences.Goals.{then-differ+in_ok-mark, else-differ}
use Rattle.node_parcel.proofs.marking.mark_differences.Goals as goal

pub loop-page-init : goal.loop-page-init
loop-page-init c = record {
  within = omega arith;
  same = ap (λ (h : Held). h.memory) c.clean.ensures ∙ c.in_ok-freeze.ensures.same;
  marked = none_marked c.clean.new.self c.args.snapshot.now.memory (ap (λ (h : Held). h.dirty) c.clean.ensures);
}

pub differ-requires : goal.differ-requires
differ-requires c lt =
    known_same c.loop-page.memory.memory _ c.args.snapshot.now.memory c.args.ours.now c.args.theirs.now c.in-Some.page c.same_end-end.result c.requires c.loop-page.invariant.same c.same_end-end.ensures.same c.in-Some.page (omega arith) lt

pub loop-page-preserved : goal.loop-page-preserved
loop-page-preserved c =
    let next = c.in-Some.ensures in
    let so_far = c.loop-page.invariant in
    elim c.if-differ.branch [
      | then-differ+in_ok-mark w ↦ rw w.memory-is (record {
        within = omega (arith, next.below, c.same_end-end.ensures.below, c.max-from.ensures);
        same = ap (λ (h : Held). h.memory) w.in_ok-mark.ensures.ok ∙ so_far.same;
        marked = subst (λ (n : ℕ). IsMarked w.mark.new.self c.args.snapshot.now.memory n) (one_behind c.in-Some.page c.same_end-end.result _ (c.differ.ensures.here w.if-differ.true) c.max-from.ensures) (marks_one c.loop-page.memory w.mark.new.self c.args.snapshot.now.memory c.loop-page.from c.in-Some.page next.above next.zero.0 next.zero.1 (c.differ.ensures.differs w.if-differ.true) w.in_ok-mark.ensures.ok so_far.marked);
      })
      | else-differ w ↦ rw w.memory-is (record {
        within = omega (arith, next.below, c.same_end-end.ensures.below, c.max-from.ensures);
        same = so_far.same;
        marked = passes_same c.loop-page.memory c.args.snapshot.now.memory c.loop-page.from c.in-Some.page _ next.above (omega (arith, c.max-from.ensures)) next.zero.0 next.zero.1 (all_same c.loop-page.memory.memory c.args.snapshot.now.memory c.in-Some.page c.same_end-end.result _ (known_same c.loop-page.memory.memory _ c.args.snapshot.now.memory c.args.ours.now c.args.theirs.now c.in-Some.page c.same_end-end.result c.requires so_far.same c.same_end-end.ensures.same) (c.differ.ensures.same w.if-differ.false) c.max-from.ensures) so_far.marked;
      })
    ]
