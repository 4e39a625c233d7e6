-- Where the pages of a range can be permitted or forgotten with no memory: each part that has pages of the range and others beside is its
-- holder's own, and so is each block in it that is not uniform. A block of permissions alone is always its holder's own.
-- Our choice: a restatement for proofs.
use Rattle.std.specs.Prelude.{◌≡◌, ℕ, ◌+◌, ◌-◌, ◌*◌, ◌<◌, min}
use Rattle.page_tree.specs.declared.block_ref.BlockRef.{BlockRef}
use Rattle.page_tree.specs.declared.branch.Branch.{Branch}
use Rattle.page_tree.specs.declared.branch_ref.BranchRef.{BranchRef}
use Rattle.page_tree.specs.declared.tree.Tree.{Tree}
use Rattle.page_tree.specs.declared.tree_ref.TreeRef.{TreeRef}
use Rattle.page_tree.specs.declared.block_ref.BlockRef as block_ref
use Rattle.page_tree.specs.declared.branch_ref.BranchRef as branch_ref
use Rattle.page_tree.specs.declared.tree_ref.TreeRef as tree_ref
use Rattle.page_tree.specs.Blocks.{block_pages}
use Rattle.page_tree.specs.Branches.{branch_pages, branch_blocks, block_at}
use Rattle.page_tree.specs.Trees.{tree_pages, tree_branches, branch_at}

-- of a part of so many pages, the range has all
abbrev pub IsAll : ℕ → ℕ → ℕ → Type 0
IsAll n from to = (from ≡ 0) × (to ≡ n)

abbrev pub ReadyBlock : ℕ → ℕ → BlockRef → Type 0
ReadyBlock from to (block_ref.TheVariants.Uniform permission) = IsAll block_pages from to
ReadyBlock from to (block_ref.TheVariants.Bare block) = Unit {0}
ReadyBlock from to (block_ref.TheVariants.Shared block) = ⊥
ReadyBlock from to (block_ref.TheVariants.Own block) = Unit {0}

-- the i-th part of so many pages is ready for what the range has of it
abbrev pub ReadyBranch : ℕ → ℕ → Branch → Type 0
ReadyBranch from to b = (i : ℕ) → i < branch_blocks → block_pages * i < to → from < block_pages * i + block_pages → ReadyBlock (from - block_pages * i) (min (to - block_pages * i) block_pages) (block_at b i)

abbrev pub ReadyLimb : ℕ → ℕ → BranchRef → Type 0
ReadyLimb from to (branch_ref.TheVariants.Uniform permission) = IsAll branch_pages from to
ReadyLimb from to (branch_ref.TheVariants.Shared branch) = ⊥
ReadyLimb from to (branch_ref.TheVariants.Own branch) = ReadyBranch from to branch.value

abbrev pub ReadyTree : ℕ → ℕ → Tree → Type 0
ReadyTree from to t = (i : ℕ) → i < tree_branches → branch_pages * i < to → from < branch_pages * i + branch_pages → ReadyLimb (from - branch_pages * i) (min (to - branch_pages * i) branch_pages) (branch_at t i)

abbrev pub ReadyRoot : ℕ → ℕ → TreeRef → Type 0
ReadyRoot from to (tree_ref.TheVariants.Uniform permission) = IsAll tree_pages from to
ReadyRoot from to (tree_ref.TheVariants.Shared tree) = ⊥
ReadyRoot from to (tree_ref.TheVariants.Own tree) = ReadyTree from to tree.value

-- the blocks beside one are the same
abbrev pub SameOtherBlocks : ℕ → Branch → Branch → Type 0
SameOtherBlocks i b c = (k : ℕ) → (k ≡ i → ⊥) → block_at c k ≡ block_at b k

-- the branches beside one are the same
abbrev pub SameOtherBranches : ℕ → Tree → Tree → Type 0
SameOtherBranches i t u = (k : ℕ) → (k ≡ i → ⊥) → branch_at u k ≡ branch_at t k
