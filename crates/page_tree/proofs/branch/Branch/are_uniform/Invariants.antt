use Rattle.std.proofs.Common.{◌≡◌, ℕ, ◌<◌}
use Rattle.page_tree.specs.Branches.{block_at}
use Rattle.page_tree.specs.declared.block_ref.BlockRef.TheVariants.{Uniform}
use Rattle.page_tree.proofs.branch.Branch.are_uniform.Given as goal

abbrev pub invariant-loop-i : goal.invariant-loop-i
invariant-loop-i l = (k : ℕ) → k < l.i → block_at l.self k ≡ Uniform l.permission
