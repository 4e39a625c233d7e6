use Rattle.std.proofs.Common.{◌/◌}
use Rattle.page_tree.specs.Branches.{block_at}
use Rattle.page_tree.proofs.Spread.{IsDone}
use Rattle.page_tree.proofs.BlockRanges.{IsFrozen, IsShared}
use Rattle.page_tree.proofs.branch.Branch.freeze_range.Given as goal

abbrev pub invariant-loop-i : goal.invariant-loop-i
invariant-loop-i l = record {
  kept : IsDone IsFrozen (l.fn.from / 64) l.i (block_at l.fn.self) (block_at l.self);
  shared : IsDone (IsShared l.fn.from l.fn.to) (l.fn.from / 64) l.i (block_at l.fn.self) (block_at l.self);
}
