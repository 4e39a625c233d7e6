use Rattle.std.proofs.Common.{◌≡◌, ℕ, ◌<◌, None}
use Rattle.page_tree.specs.Blocks.{page_in, permission_in}
use Rattle.page_tree.proofs.block.Block.bare_permission.Given as goal

abbrev pub invariant-loop-j : goal.invariant-loop-j
invariant-loop-j l = record {
  pages : (i : ℕ) → i < l.j → page_in l.self i ≡ None;
  permissions : (i : ℕ) → i < l.j → permission_in l.self i ≡ l.permission;
}
