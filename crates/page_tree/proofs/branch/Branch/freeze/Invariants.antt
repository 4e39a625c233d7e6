use Rattle.std.proofs.Common.{◌≡◌, ℕ, ◌<◌, length, true}
use Rattle.page_tree.specs.BlockRefs.{SameRef, NoneOwnIn, ref_own}
use Rattle.page_tree.specs.Branches.{branch_blocks, block_at, AreWholeBelow}
use Rattle.page_tree.proofs.branch.Branch.freeze.Given as goal

abbrev pub invariant-loop-i : goal.invariant-loop-i
invariant-loop-i l = record {
  sized : length l.self.blocks ≡ branch_blocks;
  same : (k : ℕ) → SameRef (block_at l.fn.self k) (block_at l.self k);
  none : (k : ℕ) → k < l.i → NoneOwnIn (block_at l.self k);
  less : (k j : ℕ) → j < 64 → ref_own (block_at l.self k) j ≡ true → ref_own (block_at l.fn.self k) j ≡ true;
  whole : AreWholeBelow l.fn.self → AreWholeBelow l.self;
}
