use Rattle.std.proofs.Common.{ℕ, ◌<◌}
use Rattle.page_tree.specs.Rows.{SameRow}
use Rattle.page_tree.specs.Uniforms.{uniform_row}
use Rattle.page_tree.specs.BranchRefs.{limb_row}
use Rattle.page_tree.specs.Trees.{branch_at}
use Rattle.page_tree.proofs.tree.Tree.is_all.Given as goal

abbrev pub invariant-loop-i : goal.invariant-loop-i
invariant-loop-i l = (k : ℕ) → k < l.i → SameRow 8192 (uniform_row l.permission) (limb_row (branch_at l.self k))
