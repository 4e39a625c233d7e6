use Rattle.std.proofs.Common.{◌/◌}
use Rattle.page_tree.specs.Branches.{block_at}
use Rattle.page_tree.proofs.Spread.{IsDone}
use Rattle.page_tree.proofs.BlockRanges.{IsTakenOf, IsAny}
use Rattle.page_tree.proofs.branch.Branch.take.Given as goal

abbrev pub invariant-loop-i : goal.invariant-loop-i
invariant-loop-i l = record {
  done : IsDone (IsTakenOf l.fn.from l.fn.to l.fn.other) (l.fn.from / 64) l.i (block_at l.fn.self) (block_at l.self);
  rest : IsDone IsAny (l.fn.from / 64) l.i (block_at l.fn.other) (block_at l.other);
}
