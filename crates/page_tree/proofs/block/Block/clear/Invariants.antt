use Rattle.std.proofs.Common.{◌≡◌, ℕ, cond, None}
use Rattle.page_tree.specs.Blocks.{page_in, within}
use Rattle.page_tree.proofs.block.Block.clear.Given as goal

abbrev pub invariant-loop-j : goal.invariant-loop-j
invariant-loop-j l = record {
  permissions : l.self.permissions ≡ l.fn.self.permissions;
  pages : (i : ℕ) → page_in l.self i ≡ cond (within l.fn.from l.j i) None (page_in l.fn.self i);
}
