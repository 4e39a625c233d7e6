use Rattle.std.proofs.Common.{◌≡◌, ℕ, arith, inl, inr, ◌∙◌, sym, subst, slice_index_or, slice_set, ◌/◌, ◌%◌}
use Rattle.std.proofs.lemmas.Bool.{cases_eq}
use Rattle.std.proofs.lemmas.List.{get_or-set_same, get_or-set_other, length-set}
use Rattle.page_tree.specs.declared.branch_ref.BranchRef.TheVariants.{Uniform}
use Rattle.page_tree.specs.BranchRefs.{SameLimb, SameOwnLimb, AreWholeLimb}
use Rattle.page_tree.specs.Trees.{branch_at}
use Rattle.page_tree.proofs.tree.Tree.share.Goals as goal

pub loop-i-preserved : goal.loop-i-preserved
loop-i-preserved c =
    let old = c.loop-i.branches in
    let i = c.loop-i.i in
    let q = c.in_ok-branches.field-0 in
    let inv = c.loop-i.invariant in
    let made = c.in_ok-branches.ensures in
    let same = get_or-set_same old i q (Uniform 0) (omega (arith, inv.sized, c.loop-i-test.true)) in
    let other = λ (k : ℕ) (ne : k ≡ i → ⊥). get_or-set_other old i k q (Uniform 0) ne in
    record {
      sized = length-set old i q ∙ inv.sized;
      same = λ k below. elim (cases_eq k i) [
        | inl here ↦ subst (λ n. SameLimb (branch_at c.args.self.now n) (slice_index_or (slice_set old i q) n (Uniform 0))) (sym here) (subst (SameLimb (branch_at c.args.self.now i)) (sym same) made.same)
        | inr there ↦ subst (SameLimb (branch_at c.args.self.now k)) (sym (other k there)) (inv.same k (omega (arith, there)))
      ];
      own = λ k below. elim (cases_eq k i) [
        | inl here ↦ subst (λ n. SameOwnLimb (branch_at c.args.self.now n) (slice_index_or (slice_set old i q) n (Uniform 0))) (sym here) (subst (SameOwnLimb (branch_at c.args.self.now i)) (sym same) made.own)
        | inr there ↦ subst (SameOwnLimb (branch_at c.args.self.now k)) (sym (other k there)) (inv.own k (omega (arith, there)))
      ];
      whole = λ whole k below. elim (cases_eq k i) [
        | inl here ↦ subst (λ n. AreWholeLimb (slice_index_or (slice_set old i q) n (Uniform 0))) (sym here) (subst AreWholeLimb (sym same) (made.whole (whole i (omega (arith, c.loop-i-test.true)))))
        | inr there ↦ subst AreWholeLimb (sym (other k there)) (inv.whole whole k (omega (arith, there)))
      ];
    }

pub returns-clause-same : goal.returns-clause-same
returns-clause-same c = record {
  permission = λ q below. (c.loop-i.invariant.same (q / 8192) (omega (arith, c.loop-i-test.false))).permission (q % 8192) (omega arith);
  byte = λ q k below. (c.loop-i.invariant.same (q / 8192) (omega (arith, c.loop-i-test.false))).byte (q % 8192) k (omega arith);
}

pub returns-clause-own : goal.returns-clause-own
returns-clause-own c q below = c.loop-i.invariant.own (q / 8192) (omega (arith, c.loop-i-test.false)) (q % 8192) (omega arith)

pub returns-clause-whole : goal.returns-clause-whole
returns-clause-whole c whole k below = c.loop-i.invariant.whole whole k (omega (arith, c.loop-i-test.false))
