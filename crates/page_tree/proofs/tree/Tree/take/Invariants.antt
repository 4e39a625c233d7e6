use Rattle.std.proofs.Common.{◌/◌}
use Rattle.page_tree.specs.Trees.{branch_at}
use Rattle.page_tree.proofs.Spread.{IsDone}
use Rattle.page_tree.proofs.BranchRanges.{IsTakenOf, IsAny}
use Rattle.page_tree.proofs.tree.Tree.take.Given as goal

abbrev pub invariant-loop-i : goal.invariant-loop-i
invariant-loop-i l = record {
  done : IsDone (IsTakenOf l.fn.from l.fn.to l.fn.other) (l.fn.from / 8192) l.i (branch_at l.fn.self) (branch_at l.self);
  rest : IsDone IsAny (l.fn.from / 8192) l.i (branch_at l.fn.other) (branch_at l.other);
}
