-- A block of pages in a row that is kept like another.
-- Our choice: a restatement for proofs.
use Rattle.std.specs.Prelude.{◌≡◌, ℕ, ◌+◌, ◌*◌, ◌/◌, ◌%◌, ◌<◌, ◌==◌, cond}
use Rattle.page_tree.specs.declared.block_ref.BlockRef.{BlockRef}
use Rattle.page_tree.specs.Blocks.{block_pages, byte_in}
use Rattle.page_tree.specs.BlockRefs.{ref_permission, ref_page}
use Rattle.page_tree.specs.Rows.{Row}

-- block i of a row has the permissions and bytes of this one
pub record IsBlockOf (r : Row) (i : ℕ) (block : BlockRef) : Type 0 where
  pub permission : (j : ℕ) → j < block_pages → ref_permission block j ≡ r.permission (block_pages * i + j)
  pub byte : (j k : ℕ) → j < block_pages → byte_in (ref_page block j) k ≡ byte_in (r.page (block_pages * i + j)) k

-- block i is kept like this; all else of n pages is the same
pub record IsBlockPutRow (n i : ℕ) (block : BlockRef) (r s : Row) : Type 0 where
  pub permission : (p : ℕ) → p < n → s.permission p ≡ cond (p / block_pages == i) (ref_permission block (p % block_pages)) (r.permission p)
  pub page : (p : ℕ) → p < n → s.page p ≡ cond (p / block_pages == i) (ref_page block (p % block_pages)) (r.page p)
