use Rattle.std.proofs.Common.{◌≡◌, ℕ, ◌<◌}
use Rattle.page_tree.specs.Blocks.{page_in, permission_in, byte_in}
use Rattle.page_tree.proofs.block.Block.is_all.Given as goal

abbrev pub invariant-loop-j : goal.invariant-loop-j
invariant-loop-j l = record {
  permission : (i : ℕ) → i < l.j → permission_in l.self i ≡ l.permission;
  byte : (i k : ℕ) → i < l.j → byte_in (page_in l.self i) k ≡ 0;
}
