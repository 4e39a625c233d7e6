use Rattle.std.proofs.Common.{arith, inl, inr, sym, subst}
use Rattle.std.proofs.lemmas.Bool.{cases_eq}
use Rattle.page_tree.specs.Rows.{SameRow}
use Rattle.page_tree.specs.BlockRefs.{ref_row}
use Rattle.page_tree.specs.Branches.{block_at}
use Rattle.page_tree.proofs.Alike.{blocks_same, block_same}
use Rattle.page_tree.proofs.branch.Branch.same.Goals as goal

pub returns-then-not-same_block-clause-differs : goal.returns-then-not-same_block-clause-differs
returns-then-not-same_block-clause-differs c other same =
    c.same_block.ensures.differs c.if-not-same_block.true (block_same c.args.self.now c.args.other.now c.loop-i.i c.loop-i-test.true same)

pub loop-i-preserved : goal.loop-i-preserved
loop-i-preserved c k low = elim (cases_eq k c.loop-i.i) [
  | inl here ↦ subst (λ i. SameRow 64 (ref_row (block_at c.args.self.now i)) (ref_row (block_at c.args.other.now i))) (sym here) (c.same_block.ensures.same c.if-not-same_block.false)
  | inr other ↦ c.loop-i.invariant k (omega (arith, other))
]

pub returns-clause-same : goal.returns-clause-same
returns-clause-same c _ = blocks_same c.args.self.now c.args.other.now (λ i low. c.loop-i.invariant i (omega (arith, c.loop-i-test.false)))
