use Rattle.std.proofs.Common.{◌≡◌, ℕ, ◌<◌, length, slice_index_or}
use Rattle.page_tree.specs.declared.block_ref.BlockRef.TheVariants.{Uniform}
use Rattle.page_tree.specs.Branches.{branch_blocks}
use Rattle.page_tree.proofs.branch.Branch.uniform.Given as goal

abbrev pub invariant-loop-i : goal.invariant-loop-i
invariant-loop-i l = record {
  sized : length l.blocks ≡ branch_blocks;
  done : (k : ℕ) → k < l.i → slice_index_or l.blocks k (Uniform 0) ≡ Uniform l.permission;
}
