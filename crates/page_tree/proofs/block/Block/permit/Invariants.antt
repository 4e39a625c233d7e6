use Rattle.std.proofs.Common.{◌≡◌, ℕ, cond, length}
use Rattle.page_tree.specs.Blocks.{block_pages, permission_in, within}
use Rattle.page_tree.proofs.block.Block.permit.Given as goal

abbrev pub invariant-loop-j : goal.invariant-loop-j
invariant-loop-j l = record {
  sized : length l.self.permissions ≡ block_pages;
  pages : l.self.pages ≡ l.fn.self.pages;
  permissions : (i : ℕ) → permission_in l.self i ≡ cond (within l.fn.from l.j i) l.fn.permission (permission_in l.fn.self i);
}
