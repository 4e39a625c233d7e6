use Rattle.std.proofs.Common.{◌≡◌, ℕ, ◌<◌, length, slice_index_or}
use Rattle.page_tree.specs.declared.branch_ref.BranchRef.TheVariants.{Uniform}
use Rattle.page_tree.specs.Trees.{tree_branches}
use Rattle.page_tree.proofs.tree.Tree.uniform.Given as goal

abbrev pub invariant-loop-i : goal.invariant-loop-i
invariant-loop-i l = record {
  sized : length l.branches ≡ tree_branches;
  done : (k : ℕ) → k < l.i → slice_index_or l.branches k (Uniform 0) ≡ Uniform l.permission;
}
