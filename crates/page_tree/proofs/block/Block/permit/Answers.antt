use Rattle.std.proofs.Common.{◌≡◌, arith, subst, cond}
use Rattle.page_tree.specs.Blocks.{permission_in, within}
use Rattle.page_tree.proofs.block.Block.permit.Goals as goal

pub returns-clause-permissions : goal.returns-clause-permissions
returns-clause-permissions c j = subst (λ n. permission_in c.loop-j.self j ≡ cond (within c.args.from n j) c.args.permission (permission_in c.args.self.now j)) {x = c.loop-j.j} {y = c.args.to} (omega (arith, c.requires.rise, c.loop-j-test.false, c.loop-j.auto.j-end)) (c.loop-j.invariant.permissions j)
