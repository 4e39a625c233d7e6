use Rattle.std.proofs.Common.{ℕ, ◌<◌}
use Rattle.page_tree.specs.Rows.{SameRow}
use Rattle.page_tree.specs.Uniforms.{uniform_row}
use Rattle.page_tree.specs.BlockRefs.{ref_row}
use Rattle.page_tree.specs.Branches.{block_at}
use Rattle.page_tree.proofs.branch.Branch.is_all.Given as goal

abbrev pub invariant-loop-i : goal.invariant-loop-i
invariant-loop-i l = (k : ℕ) → k < l.i → SameRow 64 (uniform_row l.permission) (ref_row (block_at l.self k))
