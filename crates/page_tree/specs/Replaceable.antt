-- Where a page can be exchanged for another with no memory: its block is its holder's own, and so is each part above.
-- Our choice: a restatement for proofs.
use Rattle.std.specs.Prelude.{ℕ, ◌/◌, ◌%◌}
use Rattle.page_tree.specs.declared.branch.Branch.{Branch}
use Rattle.page_tree.specs.declared.branch_ref.BranchRef.{BranchRef}
use Rattle.page_tree.specs.declared.tree.Tree.{Tree}
use Rattle.page_tree.specs.declared.tree_ref.TreeRef.{TreeRef}
use Rattle.page_tree.specs.declared.branch_ref.BranchRef as branch_ref
use Rattle.page_tree.specs.declared.tree_ref.TreeRef as tree_ref
use Rattle.page_tree.specs.Blocks.{block_pages}
use Rattle.page_tree.specs.BlockRefs.{IsOwnBlock}
use Rattle.page_tree.specs.Branches.{branch_pages, block_at}
use Rattle.page_tree.specs.Trees.{branch_at}

abbrev pub ReplaceableBelow : ℕ → Branch → Type 0
ReplaceableBelow page b = IsOwnBlock (block_at b (page / block_pages))

abbrev pub ReplaceableLimb : ℕ → BranchRef → Type 0
ReplaceableLimb page (branch_ref.TheVariants.Uniform permission) = ⊥
ReplaceableLimb page (branch_ref.TheVariants.Shared branch) = ⊥
ReplaceableLimb page (branch_ref.TheVariants.Own branch) = ReplaceableBelow page branch.value

abbrev pub ReplaceableTree : ℕ → Tree → Type 0
ReplaceableTree page t = ReplaceableLimb (page % branch_pages) (branch_at t (page / branch_pages))

abbrev pub ReplaceableRoot : ℕ → TreeRef → Type 0
ReplaceableRoot page (tree_ref.TheVariants.Uniform permission) = ⊥
ReplaceableRoot page (tree_ref.TheVariants.Shared tree) = ⊥
ReplaceableRoot page (tree_ref.TheVariants.Own tree) = ReplaceableTree page tree.value
