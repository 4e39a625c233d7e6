use Rattle.std.proofs.Common.{◌≡◌, arith, subst, cond, None}
use Rattle.page_tree.specs.Blocks.{page_in, within}
use Rattle.page_tree.proofs.block.Block.clear.Goals as goal

pub returns-clause-pages : goal.returns-clause-pages
returns-clause-pages c j = subst (λ n. page_in c.loop-j.self j ≡ cond (within c.args.from n j) None (page_in c.args.self.now j)) {x = c.loop-j.j} {y = c.args.to} (omega (arith, c.requires.rise, c.loop-j-test.false, c.loop-j.auto.j-end)) (c.loop-j.invariant.pages j)
