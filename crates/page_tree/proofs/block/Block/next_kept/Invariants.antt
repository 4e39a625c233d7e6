use Rattle.std.proofs.Common.{◌≡◌, ℕ, ◌<◌, ◌≤◌, None}
use Rattle.page_tree.specs.Blocks.{page_in}
use Rattle.page_tree.proofs.block.Block.next_kept.Given as goal

abbrev pub invariant-loop-j : goal.invariant-loop-j
invariant-loop-j l = (q : ℕ) → l.fn.from ≤ q → q < l.j → page_in l.self q ≡ None
