-- What is kept of 8,192 pages: a permission alone, or a branch that is shared or its holder's own.
-- Our choice: how the code keeps a memory.
use Rattle.std.specs.Prelude.{◌≡◌, ℕ, ◌<◌, Bool, true, false, Option, None}
use Rattle.std.specs.Arc.{arc_value}
use Rattle.page_store.specs.declared.PageRef.{PageRef}
use Rattle.page_tree.specs.declared.branch_ref.BranchRef.{BranchRef}
use Rattle.page_tree.specs.declared.branch_ref.BranchRef.TheVariants.{Uniform, Shared, Own}
use Rattle.page_tree.specs.Blocks.{byte_in}
use Rattle.page_tree.specs.Branches.{branch_pages, branch_permission, branch_page, branch_own, AreWholeBelow}
use Rattle.page_tree.specs.Rows.{Row}

-- the permission of a page
abbrev pub limb_permission : BranchRef → ℕ → ℕ
limb_permission (Uniform p) j = p
limb_permission (Shared b) j = branch_permission (arc_value b) j
limb_permission (Own b) j = branch_permission b.value j

-- what is kept of a page
abbrev pub limb_page : BranchRef → ℕ → Option PageRef
limb_page (Uniform p) j = None
limb_page (Shared b) j = branch_page (arc_value b) j
limb_page (Own b) j = branch_page b.value j

-- whether a page is the holder's own: so is its block, and the page in it
abbrev pub limb_own : BranchRef → ℕ → Bool
limb_own (Uniform p) j = false
limb_own (Shared b) j = false
limb_own (Own b) j = branch_own b.value j

-- whether it is a block of its holder's own
abbrev pub is_own_branch : BranchRef → Bool
is_own_branch (Uniform p) = false
is_own_branch (Shared b) = false
is_own_branch (Own b) = true

abbrev pub IsOwnBranch : BranchRef → Type 0
IsOwnBranch r = is_own_branch r ≡ true

-- each page that is kept has the bytes of a page
abbrev pub AreWholeLimb : BranchRef → Type 0
AreWholeLimb (Uniform p) = Unit {0}
AreWholeLimb (Shared b) = AreWholeBelow (arc_value b)
AreWholeLimb (Own b) = AreWholeBelow b.value

-- the same permissions and bytes
pub record SameLimb (r s : BranchRef) : Type 0 where
  pub permission : (j : ℕ) → j < branch_pages → limb_permission s j ≡ limb_permission r j
  pub byte : (j k : ℕ) → j < branch_pages → byte_in (limb_page s j) k ≡ byte_in (limb_page r j) k

-- the same pages are owned
abbrev pub SameOwnLimb : BranchRef → BranchRef → Type 0
SameOwnLimb r s = (j : ℕ) → j < branch_pages → limb_own s j ≡ limb_own r j

-- no page is owned
abbrev pub NoneOwnLimb : BranchRef → Type 0
NoneOwnLimb r = (j : ℕ) → j < branch_pages → limb_own r j ≡ false

-- one page is owned too; all else is the same
pub record IsOwnedLimb (j : ℕ) (r s : BranchRef) : Type 0 where
  pub same : SameLimb r s
  pub here : limb_own s j ≡ true
  pub other : (i : ℕ) → i < branch_pages → (i ≡ j → ⊥) → limb_own s i ≡ limb_own r i

-- its pages in a row
abbrev pub limb_row : BranchRef → Row
limb_row r = record { permission = limb_permission r; page = limb_page r; own = limb_own r }
