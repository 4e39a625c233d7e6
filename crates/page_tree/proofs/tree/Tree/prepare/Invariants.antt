use Rattle.std.proofs.Common.{◌/◌}
use Rattle.page_tree.specs.Trees.{branch_at}
use Rattle.page_tree.proofs.Spread.{IsDone}
use Rattle.page_tree.proofs.BranchRanges.{IsKept, IsReady}
use Rattle.page_tree.proofs.Replaced.{CanStill}
use Rattle.page_tree.proofs.tree.Tree.prepare.Given as goal

abbrev pub invariant-loop-i : goal.invariant-loop-i
invariant-loop-i l = record {
  kept : IsDone IsKept (l.fn.from / 8192) l.i (branch_at l.fn.self) (branch_at l.self);
  stays : IsDone CanStill (l.fn.from / 8192) l.i (branch_at l.fn.self) (branch_at l.self);
  ready : IsDone (IsReady l.fn.from l.fn.to) (l.fn.from / 8192) l.i (branch_at l.fn.self) (branch_at l.self);
}
