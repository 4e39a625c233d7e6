-- Pages of a tree that were moved from a source.
-- Our choice: a restatement for proofs.
use Rattle.std.specs.Prelude.{◌≡◌, ℕ, ◌+◌, ◌<◌, ◌≤◌}
use Rattle.page_tree.specs.Blocks.{byte_in}
use Rattle.page_tree.specs.Rows.{Row}
use Rattle.page_tree.specs.Trees.{tree_pages}

-- so many pages from `first` on are like a source's from `from` on; the pages after them have no byte other than 0
pub record HasMoved (source : Row) (from first count : ℕ) (made : Row) : Type 0 where
  pub permission : (k : ℕ) → k < count → made.permission (first + k) ≡ source.permission (from + k)
  pub byte : (k j : ℕ) → k < count → byte_in (made.page (first + k)) j ≡ byte_in (source.page (from + k)) j
  pub rest : (p j : ℕ) → first + count ≤ p → p < tree_pages → byte_in (made.page p) j ≡ 0
