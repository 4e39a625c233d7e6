-- A branch of pages in a row that is kept like another.
-- Our choice: a restatement for proofs.
use Rattle.std.specs.Prelude.{◌≡◌, ℕ, ◌+◌, ◌*◌, ◌/◌, ◌%◌, ◌<◌, ◌==◌, cond}
use Rattle.page_tree.specs.declared.branch_ref.BranchRef.{BranchRef}
use Rattle.page_tree.specs.Blocks.{byte_in}
use Rattle.page_tree.specs.Branches.{branch_pages}
use Rattle.page_tree.specs.BranchRefs.{limb_permission, limb_page}
use Rattle.page_tree.specs.Rows.{Row}
use Rattle.page_tree.specs.Trees.{tree_pages}

-- branch i of a row has the permissions and bytes of this one
pub record IsBranchOf (r : Row) (i : ℕ) (branch : BranchRef) : Type 0 where
  pub permission : (j : ℕ) → j < branch_pages → limb_permission branch j ≡ r.permission (branch_pages * i + j)
  pub byte : (j k : ℕ) → j < branch_pages → byte_in (limb_page branch j) k ≡ byte_in (r.page (branch_pages * i + j)) k

-- branch i is kept like this; all else is the same
pub record IsBranchPutRow (i : ℕ) (branch : BranchRef) (r s : Row) : Type 0 where
  pub permission : (p : ℕ) → p < tree_pages → s.permission p ≡ cond (p / branch_pages == i) (limb_permission branch (p % branch_pages)) (r.permission p)
  pub page : (p : ℕ) → p < tree_pages → s.page p ≡ cond (p / branch_pages == i) (limb_page branch (p % branch_pages)) (r.page p)
