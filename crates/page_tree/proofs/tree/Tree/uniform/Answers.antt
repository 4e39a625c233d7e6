use Rattle.std.proofs.Common.{◌≡◌, arith, inl, inr, ◌∙◌, rules, ap, sym, subst, slice_index_or, slice_set}
use Rattle.std.proofs.lemmas.Bool.{cases_eq}
use Rattle.std.proofs.lemmas.List.{get_or-set_same, get_or-set_other, length-set}
use Rattle.page_tree.specs.declared.branch_ref.BranchRef.{BranchRef}
use Rattle.page_tree.specs.declared.branch_ref.BranchRef.TheVariants.{Uniform}
use Rattle.page_tree.proofs.tree.Tree.uniform.Goals as goal
use Rattle.page_tree.proofs.tree.Tree.uniform.Goals.{then-permission-ne0+else-loop-i-test, else-permission-ne0}

pub loop-i-preserved : goal.loop-i-preserved
loop-i-preserved c =
    let old = c.loop-i.branches in
    let i = c.loop-i.i in
    let q : BranchRef = Uniform c.args.permission in
    let inv = c.loop-i.invariant in
    record {
      sized = length-set old i q ∙ inv.sized;
      done = λ k below. elim (cases_eq k i) [
        | inl here ↦ subst (λ n. slice_index_or (slice_set old i q) n (Uniform 0) ≡ q) (sym here) (get_or-set_same old i q (Uniform 0) (omega (arith, inv.sized, c.loop-i-test.true)))
        | inr there ↦ get_or-set_other old i k q (Uniform 0) there ∙ inv.done k (omega (arith, there))
      ];
    }

pub returns : goal.returns
returns c i below = elim c.if-permission-ne0.branch [
  | then-permission-ne0+else-loop-i-test w ↦ rw w.branches-is (w.loop-i.invariant.done i (omega (arith, below, w.loop-i-test.false)))
  | else-permission-ne0 w ↦ rw w.branches-is (
      let made : slice_index_or c.from_fn-branches.result i (Uniform 0) ≡ Uniform 0 = let called = (c.from_fn-branches.ensures.items.at i (Uniform 0) below).2 in search rules in
      made ∙ ap (λ p. Uniform p) (sym w.if-permission-ne0.false))
]
