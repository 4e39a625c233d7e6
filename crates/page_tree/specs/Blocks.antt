-- A block of 64 pages in a row, each with its permission.
-- Our choice: 64 pages a block.
use Rattle.std.specs.Prelude.{◌≡◌, ℕ, List, [], ◌<◌, Bool, false, not, nat_lt, ◌&&◌, Option, Some, None, slice_index, slice_index_or}
use Rattle.page_store.specs.Bytes.{bytes_of, is_own, IsPage}
use Rattle.page_store.specs.declared.PageRef.{PageRef}
use Rattle.page_tree.specs.declared.block.Block.{Block}

-- the pages of a block
abbrev pub block_pages : ℕ
block_pages = 64

-- what is kept of a page of a block
abbrev pub page_in : Block → ℕ → Option PageRef
page_in b j = slice_index_or b.pages j None

-- the permission of a page of a block
abbrev pub permission_in : Block → ℕ → ℕ
permission_in b j = slice_index b.permissions j

-- a byte of a page, by what is kept of it
abbrev pub byte_in : Option PageRef → ℕ → ℕ
byte_in None k = 0
byte_in (Some page) k = slice_index (bytes_of page) k

-- whether what is kept of a page is its holder's own
abbrev pub is_own_in : Option PageRef → Bool
is_own_in None = false
is_own_in (Some page) = is_own page

-- what is kept of a page has the bytes of a page
abbrev pub IsWhole : Option PageRef → Type 0
IsWhole None = Unit {0}
IsWhole (Some page) = IsPage (bytes_of page)

-- each page that a block keeps has the bytes of a page
abbrev pub AreWhole : Block → Type 0
AreWhole b = (j : ℕ) → j < block_pages → IsWhole (page_in b j)

-- two blocks of the same permissions and bytes
pub record SameBytes (b c : Block) : Type 0 where
  pub permission : (j : ℕ) → j < block_pages → permission_in c j ≡ permission_in b j
  pub byte : (j k : ℕ) → j < block_pages → byte_in (page_in c j) k ≡ byte_in (page_in b j) k

-- a block of the same permissions and bytes, with own pages where another has them
pub record IsShare (b c : Block) : Type 0 where
  pub same : SameBytes b c
  pub own : (j : ℕ) → j < block_pages → is_own_in (page_in c j) ≡ is_own_in (page_in b j)
  pub whole : AreWhole c

-- no page that a block keeps is an own one
abbrev pub NoneOwn : Block → Type 0
NoneOwn b = (j : ℕ) → j < block_pages → is_own_in (page_in b j) ≡ false

-- whether a number lies from one on and before another
abbrev pub within : ℕ → ℕ → ℕ → Bool
within from to j = not (nat_lt j from) && nat_lt j to

-- a page of a block with no permission and no byte other than 0
abbrev pub IsBlankIn : Block → ℕ → Type 0
IsBlankIn b j = (permission_in b j ≡ 0) × ((k : ℕ) → byte_in (page_in b j) k ≡ 0)

-- the bytes that are kept of a page
abbrev pub bytes_in : Option PageRef → List ℕ
bytes_in None = []
bytes_in (Some page) = bytes_of page
