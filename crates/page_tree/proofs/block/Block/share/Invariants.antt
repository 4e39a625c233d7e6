use Rattle.std.proofs.Common.{◌≡◌, ℕ, ◌<◌, slice_index_or, None}
use Rattle.page_tree.specs.Blocks.{page_in, is_own_in, byte_in, IsWhole}
use Rattle.page_tree.proofs.block.Block.share.Given as goal

abbrev pub invariant-loop-j : goal.invariant-loop-j
invariant-loop-j l = record {
  byte : (i k : ℕ) → i < l.j → byte_in (slice_index_or l.pages i None) k ≡ byte_in (page_in l.self i) k;
  own : (i : ℕ) → i < l.j → is_own_in (slice_index_or l.pages i None) ≡ is_own_in (page_in l.self i);
  whole : (i : ℕ) → i < l.j → IsWhole (slice_index_or l.pages i None);
}
