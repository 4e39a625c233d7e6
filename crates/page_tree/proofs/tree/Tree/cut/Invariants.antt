use Rattle.std.proofs.Common.{◌/◌}
use Rattle.page_tree.specs.Trees.{branch_at}
use Rattle.page_tree.proofs.Spread.{IsDone}
use Rattle.page_tree.proofs.BranchRanges.{IsKept, IsCut}
use Rattle.page_tree.proofs.tree.Tree.cut.Given as goal

abbrev pub invariant-loop-i : goal.invariant-loop-i
invariant-loop-i l = record {
  kept : IsDone IsKept (l.fn.from / 8192) l.i (branch_at l.fn.self) (branch_at l.self);
  cut : IsDone (IsCut l.fn.from l.fn.to) (l.fn.from / 8192) l.i (branch_at l.fn.self) (branch_at l.self);
}
