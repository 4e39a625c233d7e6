use Rattle.std.proofs.Common.{◌≡◌, ℕ, ◌<◌, ◌≤◌}
use Rattle.page_tree.specs.BareBlocks.{bare_permission}
use Rattle.page_tree.proofs.bare_block.BareBlock.same_end.Given as goal

abbrev pub invariant-loop-j : goal.invariant-loop-j
invariant-loop-j l = (i : ℕ) → l.fn.page ≤ i → i < l.j → bare_permission l.self i ≡ bare_permission l.self l.fn.page
