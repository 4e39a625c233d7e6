-- Where the pages of a range can be exchanged for those of another tree with no memory: each part that has pages of the range and others
-- beside is its holder's own. A part that the range has all of is kept in any way.
-- Our choice: a restatement for proofs.
use Rattle.std.specs.Prelude.{ℕ, ◌+◌, ◌-◌, ◌*◌, ◌<◌, min}
use Rattle.page_tree.specs.declared.block_ref.BlockRef.{BlockRef}
use Rattle.page_tree.specs.declared.branch.Branch.{Branch}
use Rattle.page_tree.specs.declared.branch_ref.BranchRef.{BranchRef}
use Rattle.page_tree.specs.declared.tree.Tree.{Tree}
use Rattle.page_tree.specs.declared.tree_ref.TreeRef.{TreeRef}
use Rattle.page_tree.specs.declared.block_ref.BlockRef as block_ref
use Rattle.page_tree.specs.declared.branch_ref.BranchRef as branch_ref
use Rattle.page_tree.specs.declared.tree_ref.TreeRef as tree_ref
use Rattle.page_tree.specs.Blocks.{block_pages}
use Rattle.page_tree.specs.Ready.{IsAll}
use Rattle.page_tree.specs.Branches.{branch_pages, branch_blocks, block_at}
use Rattle.page_tree.specs.Trees.{tree_pages, tree_branches, branch_at}

abbrev pub CutBlock : ℕ → ℕ → BlockRef → Type 0
CutBlock from to (block_ref.TheVariants.Uniform permission) = IsAll block_pages from to
CutBlock from to (block_ref.TheVariants.Bare block) = Unit {0}
CutBlock from to (block_ref.TheVariants.Shared block) = IsAll block_pages from to
CutBlock from to (block_ref.TheVariants.Own block) = Unit {0}

-- the i-th part of so many pages is cut for what the range has of it
abbrev pub CutBranch : ℕ → ℕ → Branch → Type 0
CutBranch from to b = (i : ℕ) → i < branch_blocks → block_pages * i < to → from < block_pages * i + block_pages → CutBlock (from - block_pages * i) (min (to - block_pages * i) block_pages) (block_at b i)

abbrev pub CutLimb : ℕ → ℕ → BranchRef → Type 0
CutLimb from to (branch_ref.TheVariants.Uniform permission) = IsAll branch_pages from to
CutLimb from to (branch_ref.TheVariants.Shared branch) = IsAll branch_pages from to
CutLimb from to (branch_ref.TheVariants.Own branch) = CutBranch from to branch.value

abbrev pub CutTree : ℕ → ℕ → Tree → Type 0
CutTree from to t = (i : ℕ) → i < tree_branches → branch_pages * i < to → from < branch_pages * i + branch_pages → CutLimb (from - branch_pages * i) (min (to - branch_pages * i) branch_pages) (branch_at t i)

abbrev pub CutRoot : ℕ → ℕ → TreeRef → Type 0
CutRoot from to (tree_ref.TheVariants.Uniform permission) = IsAll tree_pages from to
CutRoot from to (tree_ref.TheVariants.Shared tree) = IsAll tree_pages from to
CutRoot from to (tree_ref.TheVariants.Own tree) = CutTree from to tree.value
