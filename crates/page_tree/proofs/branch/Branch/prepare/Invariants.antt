use Rattle.std.proofs.Common.{◌/◌}
use Rattle.page_tree.specs.Branches.{block_at}
use Rattle.page_tree.proofs.Spread.{IsDone}
use Rattle.page_tree.proofs.BlockRanges.{IsKept, IsReady}
use Rattle.page_tree.proofs.Replaced.{IsOwnStill}
use Rattle.page_tree.proofs.branch.Branch.prepare.Given as goal

abbrev pub invariant-loop-i : goal.invariant-loop-i
invariant-loop-i l = record {
  kept : IsDone IsKept (l.fn.from / 64) l.i (block_at l.fn.self) (block_at l.self);
  stays : IsDone IsOwnStill (l.fn.from / 64) l.i (block_at l.fn.self) (block_at l.self);
  ready : IsDone (IsReady l.fn.from l.fn.to) (l.fn.from / 64) l.i (block_at l.fn.self) (block_at l.self);
}
