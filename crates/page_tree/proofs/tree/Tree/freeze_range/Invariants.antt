use Rattle.std.proofs.Common.{◌/◌}
use Rattle.page_tree.specs.Trees.{branch_at}
use Rattle.page_tree.proofs.Spread.{IsDone}
use Rattle.page_tree.proofs.BranchRanges.{IsFrozen, IsShared}
use Rattle.page_tree.proofs.tree.Tree.freeze_range.Given as goal

abbrev pub invariant-loop-i : goal.invariant-loop-i
invariant-loop-i l = record {
  kept : IsDone IsFrozen (l.fn.from / 8192) l.i (branch_at l.fn.self) (branch_at l.self);
  shared : IsDone (IsShared l.fn.from l.fn.to) (l.fn.from / 8192) l.i (branch_at l.fn.self) (branch_at l.self);
}
