use Rattle.std.proofs.Common.{◌≡◌, ℕ, ◌<◌}
use Rattle.page_tree.specs.Blocks.{page_in, byte_in}
use Rattle.page_tree.proofs.block.Block.is_like_bare.Given as goal

abbrev pub invariant-loop-j : goal.invariant-loop-j
invariant-loop-j l = (i k : ℕ) → i < l.j → byte_in (page_in l.self i) k ≡ 0
