-- What is kept of 64 pages: a permission alone, their permissions alone, or a block that is shared or its holder's own.
-- Our choice: how the code keeps a memory.
use Rattle.std.specs.Prelude.{◌≡◌, ℕ, ◌<◌, Bool, true, false, Option, None}
use Rattle.std.specs.Arc.{arc_value}
use Rattle.page_store.specs.declared.PageRef.{PageRef}
use Rattle.page_tree.specs.declared.block_ref.BlockRef.{BlockRef}
use Rattle.page_tree.specs.declared.block_ref.BlockRef.TheVariants.{Uniform, Bare, Shared, Own}
use Rattle.page_tree.specs.Blocks.{block_pages, page_in, permission_in, byte_in, is_own_in, IsWhole}
use Rattle.page_tree.specs.BareBlocks.{bare_permission}
use Rattle.page_tree.specs.Rows.{Row}

-- the permission of a page
abbrev pub ref_permission : BlockRef → ℕ → ℕ
ref_permission (Uniform p) j = p
ref_permission (Bare b) j = bare_permission b.value j
ref_permission (Shared b) j = permission_in (arc_value b) j
ref_permission (Own b) j = permission_in b.value j

-- what is kept of a page
abbrev pub ref_page : BlockRef → ℕ → Option PageRef
ref_page (Uniform p) j = None
ref_page (Bare b) j = None
ref_page (Shared b) j = page_in (arc_value b) j
ref_page (Own b) j = page_in b.value j

-- whether a page is the holder's own: so is its block, and the page in it
abbrev pub ref_own : BlockRef → ℕ → Bool
ref_own (Uniform p) j = false
ref_own (Bare b) j = false
ref_own (Shared b) j = false
ref_own (Own b) j = is_own_in (page_in b.value j)

-- whether it is a block of its holder's own
abbrev pub is_own_block : BlockRef → Bool
is_own_block (Uniform p) = false
is_own_block (Bare b) = false
is_own_block (Shared b) = false
is_own_block (Own b) = true

abbrev pub IsOwnBlock : BlockRef → Type 0
IsOwnBlock r = is_own_block r ≡ true

-- it is permissions alone
abbrev pub IsBareRef : BlockRef → Type 0
IsBareRef (Uniform p) = ⊥
IsBareRef (Bare b) = Unit {0}
IsBareRef (Shared b) = ⊥
IsBareRef (Own b) = ⊥

-- its permissions can be changed one by one
abbrev pub IsLoose : BlockRef → Type 0
IsLoose (Uniform p) = ⊥
IsLoose (Bare b) = Unit {0}
IsLoose (Shared b) = ⊥
IsLoose (Own b) = Unit {0}

-- each page that is kept has the bytes of a page
abbrev pub AreWholeIn : BlockRef → Type 0
AreWholeIn r = (j : ℕ) → j < block_pages → IsWhole (ref_page r j)

-- the same permissions and bytes
pub record SameRef (r s : BlockRef) : Type 0 where
  pub permission : (j : ℕ) → j < block_pages → ref_permission s j ≡ ref_permission r j
  pub byte : (j k : ℕ) → j < block_pages → byte_in (ref_page s j) k ≡ byte_in (ref_page r j) k

-- the same pages are owned
abbrev pub SameOwn : BlockRef → BlockRef → Type 0
SameOwn r s = (j : ℕ) → j < block_pages → ref_own s j ≡ ref_own r j

-- no page is owned
abbrev pub NoneOwnIn : BlockRef → Type 0
NoneOwnIn r = (j : ℕ) → j < block_pages → ref_own r j ≡ false

-- one page is owned too; all else is the same
pub record IsOwnedToo (j : ℕ) (r s : BlockRef) : Type 0 where
  pub same : SameRef r s
  pub here : ref_own s j ≡ true
  pub other : (i : ℕ) → i < block_pages → (i ≡ j → ⊥) → ref_own s i ≡ ref_own r i

-- a page with no permission and no byte other than 0
abbrev pub IsBlankAt : BlockRef → ℕ → Type 0
IsBlankAt r j = (ref_permission r j ≡ 0) × ((k : ℕ) → byte_in (ref_page r j) k ≡ 0)

-- its pages in a row
abbrev pub ref_row : BlockRef → Row
ref_row r = record { permission = ref_permission r; page = ref_page r; own = ref_own r }
