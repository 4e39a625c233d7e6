use Rattle.std.proofs.Common.{ℕ, ◌*◌, ◌<◌, ◌≤◌}
use Rattle.page_tree.specs.Rows.{IsBlankPage}
use Rattle.page_tree.specs.Trees.{tree_row}
use Rattle.page_tree.proofs.tree.Tree.next_used.Given as goal

abbrev pub invariant-loop-i : goal.invariant-loop-i
invariant-loop-i l = (q : ℕ) → l.fn.from ≤ q → q < 8192 * l.i → IsBlankPage (tree_row l.self) q
