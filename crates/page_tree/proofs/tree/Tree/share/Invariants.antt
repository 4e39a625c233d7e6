use Rattle.std.proofs.Common.{◌≡◌, ℕ, ◌<◌, length, slice_index_or}
use Rattle.page_tree.specs.declared.branch_ref.BranchRef.TheVariants.{Uniform}
use Rattle.page_tree.specs.BranchRefs.{SameLimb, SameOwnLimb, AreWholeLimb}
use Rattle.page_tree.specs.Trees.{tree_branches, branch_at}
use Rattle.page_tree.proofs.tree.Tree.share.Given as goal

abbrev pub invariant-loop-i : goal.invariant-loop-i
invariant-loop-i l = record {
  sized : length l.branches ≡ tree_branches;
  same : (k : ℕ) → k < l.i → SameLimb (branch_at l.self k) (slice_index_or l.branches k (Uniform 0));
  own : (k : ℕ) → k < l.i → SameOwnLimb (branch_at l.self k) (slice_index_or l.branches k (Uniform 0));
  whole : ((k : ℕ) → k < tree_branches → AreWholeLimb (branch_at l.self k)) → (k : ℕ) → k < l.i → AreWholeLimb (slice_index_or l.branches k (Uniform 0));
}
