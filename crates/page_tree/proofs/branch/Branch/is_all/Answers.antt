use Rattle.std.proofs.Common.{arith, inl, inr, sym, subst}
use Rattle.std.proofs.lemmas.Bool.{cases_eq}
use Rattle.page_tree.specs.Rows.{SameRow}
use Rattle.page_tree.specs.Uniforms.{uniform_row}
use Rattle.page_tree.specs.BlockRefs.{ref_row}
use Rattle.page_tree.specs.Branches.{block_at}
use Rattle.page_tree.proofs.Alike.{blocks_uniform, block_uniform}
use Rattle.page_tree.proofs.branch.Branch.is_all.Goals as goal

pub returns-then-not-is_all_block-clause-differs : goal.returns-then-not-is_all_block-clause-differs
returns-then-not-is_all_block-clause-differs c other same =
    c.is_all_block.ensures.differs c.if-not-is_all_block.true (block_uniform c.args.permission c.args.self.now c.loop-i.i c.loop-i-test.true same)

pub loop-i-preserved : goal.loop-i-preserved
loop-i-preserved c k low = elim (cases_eq k c.loop-i.i) [
  | inl here ↦ subst (λ i. SameRow 64 (uniform_row c.args.permission) (ref_row (block_at c.args.self.now i))) (sym here) (c.is_all_block.ensures.same c.if-not-is_all_block.false)
  | inr other ↦ c.loop-i.invariant k (omega (arith, other))
]

pub returns-clause-same : goal.returns-clause-same
returns-clause-same c _ = blocks_uniform c.args.permission c.args.self.now (λ i low. c.loop-i.invariant i (omega (arith, c.loop-i-test.false)))
