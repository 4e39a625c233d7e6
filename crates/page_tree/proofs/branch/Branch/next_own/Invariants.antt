use Rattle.std.proofs.Common.{◌≡◌, ℕ, ◌*◌, ◌<◌, ◌≤◌, false}
use Rattle.page_tree.specs.Branches.{branch_own}
use Rattle.page_tree.proofs.branch.Branch.next_own.Given as goal

abbrev pub invariant-loop-i : goal.invariant-loop-i
invariant-loop-i l = (q : ℕ) → l.fn.from ≤ q → q < l.fn.end → q < 64 * l.i → branch_own l.self q ≡ false
