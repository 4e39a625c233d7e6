use Rattle.std.proofs.Common.{ℕ, ◌<◌, ◌≤◌}
use Rattle.page_tree.specs.Blocks.{IsBlankIn}
use Rattle.page_tree.proofs.block.Block.next_used.Given as goal

abbrev pub invariant-loop-j : goal.invariant-loop-j
invariant-loop-j l = (i : ℕ) → l.fn.from ≤ i → i < l.j → IsBlankIn l.self i
