use Rattle.std.proofs.Common.{◌≡◌, ℕ, cond, length}
use Rattle.page_tree.specs.Blocks.{block_pages, within}
use Rattle.page_tree.specs.BareBlocks.{bare_permission}
use Rattle.page_tree.proofs.bare_block.BareBlock.take.Given as goal

abbrev pub invariant-loop-j : goal.invariant-loop-j
invariant-loop-j l = record {
  sized : length l.self.permissions ≡ block_pages;
  permissions : (i : ℕ) → bare_permission l.self i ≡ cond (within l.fn.from l.j i) (bare_permission l.other i) (bare_permission l.fn.self i);
}
