use Rattle.std.proofs.Common.{◌≡◌, ℕ, ◌<◌}
use Rattle.page_tree.specs.BareBlocks.{bare_permission}
use Rattle.page_tree.proofs.bare_block.BareBlock.is_all.Given as goal

abbrev pub invariant-loop-j : goal.invariant-loop-j
invariant-loop-j l = (i : ℕ) → i < l.j → bare_permission l.self i ≡ l.permission
