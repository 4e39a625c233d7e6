use Rattle.std.proofs.Common.{◌≡◌, ℕ, ◌<◌, length, true}
use Rattle.page_tree.specs.BranchRefs.{SameLimb, NoneOwnLimb, limb_own}
use Rattle.page_tree.specs.Trees.{tree_branches, branch_at, AreWholeTree}
use Rattle.page_tree.proofs.tree.Tree.freeze.Given as goal

abbrev pub invariant-loop-i : goal.invariant-loop-i
invariant-loop-i l = record {
  sized : length l.self.branches ≡ tree_branches;
  same : (k : ℕ) → SameLimb (branch_at l.fn.self k) (branch_at l.self k);
  none : (k : ℕ) → k < l.i → NoneOwnLimb (branch_at l.self k);
  less : (k j : ℕ) → j < 8192 → limb_own (branch_at l.self k) j ≡ true → limb_own (branch_at l.fn.self k) j ≡ true;
  whole : AreWholeTree l.fn.self → AreWholeTree l.self;
}
