-- What is kept of pages in a row, whatever keeps it: one page's permission, its bytes where any are kept, and whether it is the
-- holder's own. The levels of a tree say what their functions do by these relations.
-- Our choice: a restatement for proofs.
use Rattle.std.specs.Prelude.{◌≡◌, ℕ, ◌<◌, ◌≤◌, ◌==◌, List, Bool, false, cond, Option, None}
use Rattle.page_store.specs.declared.PageRef.{PageRef}
use Rattle.page_tree.specs.Blocks.{byte_in, bytes_in, is_own_in, within}

pub record Row : Type 0 where
  pub permission : ℕ → ℕ
  pub page : ℕ → Option PageRef
  pub own : ℕ → Bool

-- n pages have the same permissions and bytes
pub record SameRow (n : ℕ) (r s : Row) : Type 0 where
  pub permission : (p : ℕ) → p < n → s.permission p ≡ r.permission p
  pub byte : (p k : ℕ) → p < n → byte_in (s.page p) k ≡ byte_in (r.page p) k

-- of n pages the same are owned
abbrev pub SameOwners : ℕ → Row → Row → Type 0
SameOwners n r s = (p : ℕ) → p < n → s.own p ≡ r.own p

-- the pages from one to before another have the permission; all else of n pages is the same
pub record IsPermittedRow (n from to right : ℕ) (r s : Row) : Type 0 where
  pub permission : (p : ℕ) → p < n → s.permission p ≡ cond (within from to p) right (r.permission p)
  pub page : (p : ℕ) → p < n → s.page p ≡ r.page p
  pub own : (p : ℕ) → p < n → s.own p ≡ r.own p

-- nothing is kept of the pages from one to before another; all else of n pages is the same
pub record IsClearedRow (n from to : ℕ) (r s : Row) : Type 0 where
  pub permission : (p : ℕ) → p < n → s.permission p ≡ r.permission p
  pub page : (p : ℕ) → p < n → s.page p ≡ cond (within from to p) None (r.page p)
  pub own : (p : ℕ) → p < n → s.own p ≡ cond (within from to p) false (r.own p)

-- the pages from one to before another are those of another row; all else of n pages is the same
pub record IsTakenRow (n from to : ℕ) (r other s : Row) : Type 0 where
  pub permission : (p : ℕ) → p < n → s.permission p ≡ cond (within from to p) (other.permission p) (r.permission p)
  pub page : (p : ℕ) → p < n → s.page p ≡ cond (within from to p) (other.page p) (r.page p)
  pub own : (p : ℕ) → p < n → s.own p ≡ cond (within from to p) (other.own p) (r.own p)

-- one page is kept like this; all else of n pages is the same
pub record IsReplacedRow (n at : ℕ) (kept : Option PageRef) (r s : Row) : Type 0 where
  pub permission : (p : ℕ) → p < n → s.permission p ≡ r.permission p
  pub page : (p : ℕ) → p < n → s.page p ≡ cond (p == at) kept (r.page p)
  pub own : (p : ℕ) → p < n → s.own p ≡ cond (p == at) (is_own_in kept) (r.own p)

-- the bytes of one own page are edited; all else of n pages is the same
pub record IsEditedRow (n at : ℕ) (edit : List ℕ → List ℕ) (r s : Row) : Type 0 where
  pub permission : (p : ℕ) → p < n → s.permission p ≡ r.permission p
  pub other : (p : ℕ) → p < n → (p ≡ at → ⊥) → s.page p ≡ r.page p
  pub own : (p : ℕ) → p < n → s.own p ≡ r.own p
  pub bytes : bytes_in (s.page at) ≡ edit (bytes_in (r.page at))

-- a page with no permission and no byte other than 0
abbrev pub IsBlankPage : Row → ℕ → Type 0
IsBlankPage r p = (r.permission p ≡ 0) × ((k : ℕ) → byte_in (r.page p) k ≡ 0)

-- the pages from one to before another keep no bytes and have one permission
abbrev pub IsBareStretch : Row → ℕ → ℕ → Type 0
IsBareStretch r from to = (p : ℕ) → from ≤ p → p < to → (r.page p ≡ None) × (r.permission p ≡ r.permission from)
