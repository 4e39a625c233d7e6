use Rattle.std.proofs.Common.{◌≡◌, ℕ, ◌<◌, ◌≤◌, false}
use Rattle.page_tree.specs.Blocks.{page_in, is_own_in}
use Rattle.page_tree.proofs.block.Block.next_own.Given as goal

abbrev pub invariant-loop-j : goal.invariant-loop-j
invariant-loop-j l = (q : ℕ) → l.fn.from ≤ q → q < l.j → is_own_in (page_in l.self q) ≡ false
