use Rattle.std.proofs.Common.{ℕ, ◌<◌}
use Rattle.page_tree.specs.Rows.{SameRow}
use Rattle.page_tree.specs.BranchRefs.{limb_row}
use Rattle.page_tree.specs.Trees.{branch_at}
use Rattle.page_tree.proofs.tree.Tree.same.Given as goal

abbrev pub invariant-loop-i : goal.invariant-loop-i
invariant-loop-i l = (k : ℕ) → k < l.i → SameRow 8192 (limb_row (branch_at l.self k)) (limb_row (branch_at l.other k))
