use Rattle.std.proofs.Common.{ℕ, ◌<◌}
use Rattle.page_tree.specs.Rows.{SameRow}
use Rattle.page_tree.specs.BlockRefs.{ref_row}
use Rattle.page_tree.specs.Branches.{block_at}
use Rattle.page_tree.proofs.branch.Branch.same.Given as goal

abbrev pub invariant-loop-i : goal.invariant-loop-i
invariant-loop-i l = (k : ℕ) → k < l.i → SameRow 64 (ref_row (block_at l.self k)) (ref_row (block_at l.other k))
