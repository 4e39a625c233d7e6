-- 8,192 pages in a row, by blocks of 64.
-- Our choice: 128 blocks a branch.
use Rattle.std.specs.Prelude.{◌≡◌, ℕ, ◌/◌, ◌%◌, ◌<◌, Bool, Option, slice_index_or, true, false}
use Rattle.page_store.specs.declared.PageRef.{PageRef}
use Rattle.page_tree.specs.declared.block_ref.BlockRef.{BlockRef}
use Rattle.page_tree.specs.declared.block_ref.BlockRef.TheVariants.{Uniform}
use Rattle.page_tree.specs.declared.branch.Branch.{Branch}
use Rattle.page_tree.specs.Blocks.{block_pages, byte_in}
use Rattle.page_tree.specs.BlockRefs.{ref_permission, ref_page, ref_own, AreWholeIn}
use Rattle.page_tree.specs.Rows.{Row}

-- the pages of a branch
abbrev pub branch_pages : ℕ
branch_pages = 8192

-- the blocks of a branch
abbrev pub branch_blocks : ℕ
branch_blocks = 128

-- what is kept of a block
abbrev pub block_at : Branch → ℕ → BlockRef
block_at b i = slice_index_or b.blocks i (Uniform 0)

abbrev pub branch_permission : Branch → ℕ → ℕ
branch_permission b p = ref_permission (block_at b (p / block_pages)) (p % block_pages)

abbrev pub branch_page : Branch → ℕ → Option PageRef
branch_page b p = ref_page (block_at b (p / block_pages)) (p % block_pages)

abbrev pub branch_own : Branch → ℕ → Bool
branch_own b p = ref_own (block_at b (p / block_pages)) (p % block_pages)

-- each block is uniform, of one permission
abbrev pub IsUniformBranch : ℕ → Branch → Type 0
IsUniformBranch permission b = (i : ℕ) → i < branch_blocks → block_at b i ≡ Uniform permission

-- the same permissions and bytes
pub record SameBelow (b c : Branch) : Type 0 where
  pub permission : (q : ℕ) → q < branch_pages → branch_permission c q ≡ branch_permission b q
  pub byte : (q k : ℕ) → q < branch_pages → byte_in (branch_page c q) k ≡ byte_in (branch_page b q) k

-- the same pages are owned
abbrev pub SameOwnBelow : Branch → Branch → Type 0
SameOwnBelow b c = (q : ℕ) → q < branch_pages → branch_own c q ≡ branch_own b q

-- no page is owned
abbrev pub NoneOwnBelow : Branch → Type 0
NoneOwnBelow b = (q : ℕ) → q < branch_pages → branch_own b q ≡ false

-- each page that is kept has the bytes of a page
abbrev pub AreWholeBelow : Branch → Type 0
AreWholeBelow b = (i : ℕ) → i < branch_blocks → AreWholeIn (block_at b i)

-- one page is owned too
pub record IsOwnedBelow (p : ℕ) (b c : Branch) : Type 0 where
  pub here : branch_own c p ≡ true
  pub other : (q : ℕ) → q < branch_pages → (q ≡ p → ⊥) → branch_own c q ≡ branch_own b q

-- its pages in a row
abbrev pub branch_row : Branch → Row
branch_row b = record { permission = branch_permission b; page = branch_page b; own = branch_own b }
