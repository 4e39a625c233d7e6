use Rattle.std.proofs.Common.{◌≡◌, arith, subst, cond}
use Rattle.page_tree.specs.Blocks.{within}
use Rattle.page_tree.specs.BareBlocks.{bare_permission}
use Rattle.page_tree.proofs.bare_block.BareBlock.permit.Goals as goal

pub returns : goal.returns
returns c j = subst (λ n. bare_permission c.loop-j.self j ≡ cond (within c.args.from n j) c.args.permission (bare_permission c.args.self.now j)) {x = c.loop-j.j} {y = c.args.to} (omega (arith, c.requires.rise, c.loop-j-test.false, c.loop-j.auto.j-end)) (c.loop-j.invariant.permissions j)
