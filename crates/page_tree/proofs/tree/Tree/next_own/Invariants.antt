use Rattle.std.proofs.Common.{◌≡◌, ℕ, ◌*◌, ◌<◌, ◌≤◌, false}
use Rattle.page_tree.specs.Trees.{tree_own}
use Rattle.page_tree.proofs.tree.Tree.next_own.Given as goal

abbrev pub invariant-loop-i : goal.invariant-loop-i
invariant-loop-i l = (q : ℕ) → l.fn.from ≤ q → q < l.fn.end → q < 8192 * l.i → tree_own l.self q ≡ false
