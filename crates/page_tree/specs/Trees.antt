-- The 1,048,576 pages of a memory, by branches of 8,192.
-- Our choice: 128 branches a tree.
use Rattle.std.specs.Prelude.{◌≡◌, ℕ, ◌/◌, ◌%◌, ◌<◌, Bool, Option, slice_index_or, true, false}
use Rattle.page_store.specs.declared.PageRef.{PageRef}
use Rattle.page_tree.specs.declared.branch_ref.BranchRef.{BranchRef}
use Rattle.page_tree.specs.declared.branch_ref.BranchRef.TheVariants.{Uniform}
use Rattle.page_tree.specs.declared.tree.Tree.{Tree}
use Rattle.page_tree.specs.Blocks.{byte_in}
use Rattle.page_tree.specs.Branches.{branch_pages}
use Rattle.page_tree.specs.BranchRefs.{limb_permission, limb_page, limb_own, AreWholeLimb}
use Rattle.page_tree.specs.Rows.{Row}

-- the pages of a branch
abbrev pub tree_pages : ℕ
tree_pages = 1048576

-- the branches of a branch
abbrev pub tree_branches : ℕ
tree_branches = 128

-- what is kept of a block
abbrev pub branch_at : Tree → ℕ → BranchRef
branch_at b i = slice_index_or b.branches i (Uniform 0)

abbrev pub tree_permission : Tree → ℕ → ℕ
tree_permission b p = limb_permission (branch_at b (p / branch_pages)) (p % branch_pages)

abbrev pub tree_page : Tree → ℕ → Option PageRef
tree_page b p = limb_page (branch_at b (p / branch_pages)) (p % branch_pages)

abbrev pub tree_own : Tree → ℕ → Bool
tree_own b p = limb_own (branch_at b (p / branch_pages)) (p % branch_pages)

-- each branch is uniform, of one permission
abbrev pub IsUniformTree : ℕ → Tree → Type 0
IsUniformTree permission t = (i : ℕ) → i < tree_branches → branch_at t i ≡ Uniform permission

-- the same permissions and bytes
pub record SameTree (b c : Tree) : Type 0 where
  pub permission : (q : ℕ) → q < tree_pages → tree_permission c q ≡ tree_permission b q
  pub byte : (q k : ℕ) → q < tree_pages → byte_in (tree_page c q) k ≡ byte_in (tree_page b q) k

-- the same pages are owned
abbrev pub SameOwnTree : Tree → Tree → Type 0
SameOwnTree b c = (q : ℕ) → q < tree_pages → tree_own c q ≡ tree_own b q

-- no page is owned
abbrev pub NoneOwnTree : Tree → Type 0
NoneOwnTree b = (q : ℕ) → q < tree_pages → tree_own b q ≡ false

-- each page that is kept has the bytes of a page
abbrev pub AreWholeTree : Tree → Type 0
AreWholeTree b = (i : ℕ) → i < tree_branches → AreWholeLimb (branch_at b i)

-- one page is owned too
pub record IsOwnedTree (p : ℕ) (b c : Tree) : Type 0 where
  pub here : tree_own c p ≡ true
  pub other : (q : ℕ) → q < tree_pages → (q ≡ p → ⊥) → tree_own c q ≡ tree_own b q

-- its pages in a row
abbrev pub tree_row : Tree → Row
tree_row t = record { permission = tree_permission t; page = tree_page t; own = tree_own t }
