use Rattle.std.proofs.Common.{◌≡◌, ℕ, cond, length, None}
use Rattle.page_tree.specs.Blocks.{block_pages, page_in, permission_in, within}
use Rattle.page_tree.specs.BareBlocks.{bare_permission}
use Rattle.page_tree.proofs.block.Block.take_bare.Given as goal

abbrev pub invariant-loop-j : goal.invariant-loop-j
invariant-loop-j l = record {
  sized : length l.self.permissions ≡ block_pages;
  permissions : (i : ℕ) → permission_in l.self i ≡ cond (within l.fn.from l.j i) (bare_permission l.other i) (permission_in l.fn.self i);
  pages : (i : ℕ) → page_in l.self i ≡ cond (within l.fn.from l.j i) None (page_in l.fn.self i);
}
