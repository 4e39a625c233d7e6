use Rattle.std.proofs.Common.{arith, inl, inr, sym, subst}
use Rattle.std.proofs.lemmas.Bool.{cases_eq}
use Rattle.page_tree.specs.Rows.{SameRow}
use Rattle.page_tree.specs.BranchRefs.{limb_row}
use Rattle.page_tree.specs.Trees.{branch_at}
use Rattle.page_tree.proofs.Alike.{branches_same, branch_same}
use Rattle.page_tree.proofs.tree.Tree.same.Goals as goal

pub returns-then-not-same_branch-clause-differs : goal.returns-then-not-same_branch-clause-differs
returns-then-not-same_branch-clause-differs c other same =
    c.same_branch.ensures.differs c.if-not-same_branch.true (branch_same c.args.self.now c.args.other.now c.loop-i.i c.loop-i-test.true same)

pub loop-i-preserved : goal.loop-i-preserved
loop-i-preserved c k low = elim (cases_eq k c.loop-i.i) [
  | inl here ↦ subst (λ i. SameRow 8192 (limb_row (branch_at c.args.self.now i)) (limb_row (branch_at c.args.other.now i))) (sym here) (c.same_branch.ensures.same c.if-not-same_branch.false)
  | inr other ↦ c.loop-i.invariant k (omega (arith, other))
]

pub returns-clause-same : goal.returns-clause-same
returns-clause-same c _ = branches_same c.args.self.now c.args.other.now (λ i low. c.loop-i.invariant i (omega (arith, c.loop-i-test.false)))
