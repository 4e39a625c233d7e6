use Rattle.std.proofs.Common.{ℕ, ◌*◌, ◌<◌, ◌≤◌}
use Rattle.page_tree.specs.Rows.{IsBlankPage}
use Rattle.page_tree.specs.Branches.{branch_row}
use Rattle.page_tree.proofs.branch.Branch.next_used.Given as goal

abbrev pub invariant-loop-i : goal.invariant-loop-i
invariant-loop-i l = (q : ℕ) → l.fn.from ≤ q → q < 64 * l.i → IsBlankPage (branch_row l.self) q
