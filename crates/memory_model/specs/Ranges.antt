-- What an operation over a range does to a memory: numbers in a row, and the pages of a range as the Zero, Copy and Perm options of
-- Put and Get treat them (OSDI 2010, "Efficient System-Enforced Deterministic Parallelism", the section on the kernel interface).
-- Source: OSDI 2010, "Efficient System-Enforced Deterministic Parallelism", the kernel interface: Zero, Copy and Perm.
-- Our choice: that Copy carries permissions and Zero leaves them.
use Rattle.std.specs.Prelude.{◌≡◌, ℕ, zero, suc, ◌+◌, ◌*◌, ◌^◌, ◌<◌, ◌≤◌, List, length, slice_index}
use Rattle.memory_model.specs.Sparse.{Sparse, put}
use Rattle.memory_model.specs.Memory.{Memory, byte_at, permission_at}
use Rattle.memory_model.specs.Sizes.{page_size, pages, greatest_permission}

-- n numbers in a row from a key on
unfoldable pub with_row : Sparse → ℕ → (ℕ → ℕ) → ℕ → Sparse
with_row t key value zero = t
with_row t key value (suc n) = put (with_row t key value n) (key + n) (value n)

-- pages from `first` on whose bytes are 0; permissions stay
abbrev pub with_zeros : Memory → ℕ → ℕ → Memory
with_zeros m first count = record m { bytes = with_row m.bytes (page_size * first) (λ _. 0) (page_size * count) }

-- pages from `first` on with the bytes and permissions of the source's pages from `from` on
abbrev pub with_copies : Memory → Memory → ℕ → ℕ → ℕ → Memory
with_copies m source from first count = record {
  bytes = with_row m.bytes (page_size * first) (λ k. byte_at source (page_size * from + k)) (page_size * count);
  permissions = with_row m.permissions first (λ k. permission_at source (from + k)) count;
}

-- a page with these bytes; its permission stays
abbrev pub with_page : Memory → ℕ → List ℕ → Memory
with_page m page bytes = record m { bytes = with_row m.bytes (page_size * page) (slice_index bytes) page_size }

-- a page that has a permission, or a byte other than 0
abbrev pub IsUsed : Memory → ℕ → Type 0
IsUsed m page = (permission_at m page ≡ 0) × ((k : ℕ) → k < page_size → byte_at m (page_size * page + k) ≡ 0) → ⊥

-- no page from n on and before `end` has a permission or a byte other than 0
abbrev pub NoneUsed : Memory → ℕ → ℕ → Type 0
NoneUsed m n end = (page : ℕ) → n ≤ page → page < end → (permission_at m page ≡ 0) × ((k : ℕ) → k < page_size → byte_at m (page_size * page + k) ≡ 0)

-- bytes below 256 at addresses below 2 ^ 32, and permissions up to the greatest of pages below 2 ^ 20
pub record IsBounded (m : Memory) : Type 0 where
  pub byte : (a : ℕ) → byte_at m a < 256
  pub permission : (page : ℕ) → permission_at m page ≤ greatest_permission
  pub addresses : (a : ℕ) → 2 ^ 32 ≤ a → byte_at m a ≡ 0
  pub pages : (page : ℕ) → 2 ^ 20 ≤ page → permission_at m page ≡ 0

-- every byte of a page is 0
abbrev pub IsZeroPage : Memory → ℕ → Type 0
IsZeroPage m page = (k : ℕ) → k < page_size → byte_at m (page_size * page + k) ≡ 0

-- the bytes of a page
pub record IsPageOf (m : Memory) (page : ℕ) (bytes : List ℕ) : Type 0 where
  pub sized : length bytes ≡ page_size
  pub byte : (k : ℕ) → k < page_size → byte_at m (page_size * page + k) ≡ slice_index bytes k

-- the least page from n on that has a permission or a byte other than 0
pub record IsNextPage (m : Memory) (n page : ℕ) : Type 0 where
  pub from : n ≤ page
  pub below : page < pages
  pub used : IsUsed m page
  pub least : NoneUsed m n page
