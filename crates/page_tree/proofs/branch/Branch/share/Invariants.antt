use Rattle.std.proofs.Common.{◌≡◌, ℕ, ◌<◌, length, slice_index_or}
use Rattle.page_tree.specs.declared.block_ref.BlockRef.TheVariants.{Uniform}
use Rattle.page_tree.specs.BlockRefs.{SameRef, SameOwn, AreWholeIn}
use Rattle.page_tree.specs.Branches.{branch_blocks, block_at}
use Rattle.page_tree.proofs.branch.Branch.share.Given as goal

abbrev pub invariant-loop-i : goal.invariant-loop-i
invariant-loop-i l = record {
  sized : length l.blocks ≡ branch_blocks;
  same : (k : ℕ) → k < l.i → SameRef (block_at l.self k) (slice_index_or l.blocks k (Uniform 0));
  own : (k : ℕ) → k < l.i → SameOwn (block_at l.self k) (slice_index_or l.blocks k (Uniform 0));
  whole : ((k : ℕ) → k < branch_blocks → AreWholeIn (block_at l.self k)) → (k : ℕ) → k < l.i → AreWholeIn (slice_index_or l.blocks k (Uniform 0));
}
