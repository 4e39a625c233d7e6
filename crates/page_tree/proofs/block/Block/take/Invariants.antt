use Rattle.std.proofs.Common.{◌≡◌, ℕ, ◌≤◌, cond, length}
use Rattle.page_tree.specs.Blocks.{block_pages, page_in, permission_in, within}
use Rattle.page_tree.proofs.block.Block.take.Given as goal

abbrev pub invariant-loop-j : goal.invariant-loop-j
invariant-loop-j l = record {
  long : length l.self.permissions ≡ block_pages;
  permissions : (i : ℕ) → permission_in l.self i ≡ cond (within l.fn.from l.j i) (permission_in l.fn.other i) (permission_in l.fn.self i);
  pages : (i : ℕ) → page_in l.self i ≡ cond (within l.fn.from l.j i) (page_in l.fn.other i) (page_in l.fn.self i);
  rights : l.other.permissions ≡ l.fn.other.permissions;
  rest : (i : ℕ) → l.j ≤ i → page_in l.other i ≡ page_in l.fn.other i;
}
