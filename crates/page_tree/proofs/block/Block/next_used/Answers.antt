use Rattle.std.proofs.Common.{arith, inl, inr, subst}
use Rattle.std.proofs.lemmas.Bool.{cases_lt}
use Rattle.page_tree.specs.Blocks.{IsBlankIn}
use Rattle.page_tree.proofs.block.Block.next_used.Goals as goal

pub loop-j-preserved : goal.loop-j-preserved
loop-j-preserved c i from to = elim (cases_lt i c.loop-j.j) [
  | inl before ↦ c.loop-j.invariant i from before
  | inr here ↦ subst (IsBlankIn c.args.self.now) {x = c.loop-j.j} {y = i} (omega arith) (c.is_blank.ensures.blank c.if-not-is_blank.false)
]

pub returns-clause-none : goal.returns-clause-none
returns-clause-none c none i from below = c.loop-j.invariant i from (omega (arith, c.loop-j-test.false))
