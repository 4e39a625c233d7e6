-- What is kept of 1,048,576 pages: a permission alone, or a tree that is shared or its holder's own.
-- Our choice: how the code keeps a memory.
use Rattle.std.specs.Prelude.{◌≡◌, ℕ, ◌<◌, Bool, true, false, Option, None}
use Rattle.std.specs.Arc.{arc_value}
use Rattle.page_store.specs.declared.PageRef.{PageRef}
use Rattle.page_tree.specs.declared.tree_ref.TreeRef.{TreeRef}
use Rattle.page_tree.specs.declared.tree_ref.TreeRef.TheVariants.{Uniform, Shared, Own}
use Rattle.page_tree.specs.Blocks.{byte_in}
use Rattle.page_tree.specs.Trees.{tree_pages, tree_permission, tree_page, tree_own, AreWholeTree}
use Rattle.page_tree.specs.Rows.{Row}

-- the permission of a page
abbrev pub root_permission : TreeRef → ℕ → ℕ
root_permission (Uniform p) j = p
root_permission (Shared b) j = tree_permission (arc_value b) j
root_permission (Own b) j = tree_permission b.value j

-- what is kept of a page
abbrev pub root_page : TreeRef → ℕ → Option PageRef
root_page (Uniform p) j = None
root_page (Shared b) j = tree_page (arc_value b) j
root_page (Own b) j = tree_page b.value j

-- whether a page is the holder's own: so is its block, and the page in it
abbrev pub root_own : TreeRef → ℕ → Bool
root_own (Uniform p) j = false
root_own (Shared b) j = false
root_own (Own b) j = tree_own b.value j

-- whether it is a block of its holder's own
abbrev pub is_own_tree : TreeRef → Bool
is_own_tree (Uniform p) = false
is_own_tree (Shared b) = false
is_own_tree (Own b) = true

abbrev pub IsOwnTree : TreeRef → Type 0
IsOwnTree r = is_own_tree r ≡ true

-- each page that is kept has the bytes of a page
abbrev pub AreWholeRoot : TreeRef → Type 0
AreWholeRoot (Uniform p) = Unit {0}
AreWholeRoot (Shared b) = AreWholeTree (arc_value b)
AreWholeRoot (Own b) = AreWholeTree b.value

-- the same permissions and bytes
pub record SameRoot (r s : TreeRef) : Type 0 where
  pub permission : (j : ℕ) → j < tree_pages → root_permission s j ≡ root_permission r j
  pub byte : (j k : ℕ) → j < tree_pages → byte_in (root_page s j) k ≡ byte_in (root_page r j) k

-- the same pages are owned
abbrev pub SameOwnRoot : TreeRef → TreeRef → Type 0
SameOwnRoot r s = (j : ℕ) → j < tree_pages → root_own s j ≡ root_own r j

-- no page is owned
abbrev pub NoneOwnRoot : TreeRef → Type 0
NoneOwnRoot r = (j : ℕ) → j < tree_pages → root_own r j ≡ false

-- one page is owned too; all else is the same
pub record IsOwnedRoot (j : ℕ) (r s : TreeRef) : Type 0 where
  pub same : SameRoot r s
  pub here : root_own s j ≡ true
  pub other : (i : ℕ) → i < tree_pages → (i ≡ j → ⊥) → root_own s i ≡ root_own r i

-- its pages in a row
abbrev pub root_row : TreeRef → Row
root_row r = record { permission = root_permission r; page = root_page r; own = root_own r }
