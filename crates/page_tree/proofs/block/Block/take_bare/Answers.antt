use Rattle.std.proofs.Common.{◌≡◌, arith, rules, subst, cond, None}
use Rattle.std.proofs.lemmas.Grind.{common_steps}
use Rattle.page_tree.specs.Blocks.{page_in, permission_in, within}
use Rattle.page_tree.specs.BareBlocks.{bare_permission}
use Rattle.page_tree.proofs.block.Block.take_bare.Goals as goal

pub returns-clause-permissions : goal.returns-clause-permissions
returns-clause-permissions c j = subst (λ n. permission_in c.loop-j.self j ≡ cond (within c.args.from n j) (bare_permission c.args.other.now j) (permission_in c.args.self.now j)) {x = c.loop-j.j} {y = c.args.to} (omega (arith, c.requires.rise, c.loop-j-test.false, c.loop-j.auto.j-end)) (c.loop-j.invariant.permissions j)

pub returns-clause-pages : goal.returns-clause-pages
returns-clause-pages c j = subst (λ n. page_in c.loop-j.self j ≡ cond (within c.args.from n j) None (page_in c.args.self.now j)) {x = c.loop-j.j} {y = c.args.to} (omega (arith, c.requires.rise, c.loop-j-test.false, c.loop-j.auto.j-end)) (c.loop-j.invariant.pages j)

pub loop-j-preserved : goal.loop-j-preserved
loop-j-preserved c = record {
  sized = search rules;
  permissions = λ i. grind (arith, common_steps, c.loop-j.invariant.permissions i);
  pages = λ i. grind (arith, common_steps, c.loop-j.invariant.pages i, c.replace.ensures.slots i);
}
