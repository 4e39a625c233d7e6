-- The parcel in which a top is written: each page that has a permission, or a byte other than 0, by the least number of a resident page
-- with the same bytes, where there is one.
-- Our choice: which of a top's parcels is written.
use Rattle.std.specs.Prelude.{◌≡◌, ℕ, zero, suc, ◌+◌, ◌*◌, ◌^◌, ◌<◌, ◌≤◌, ◌==◌, ◌&&◌, Bool, if◌then◌else◌, List, [], ◌∷◌, length, slice_index, Option, Some, None, nat_eq}
use Rattle.std.specs.List.{position_from}
use Rattle.std.specs.Cmp.Lexicographic.{pointwise}
use Rattle.memory_model.specs.Sizes.{page_size, pages}
use Rattle.memory_model.specs.Memory.{Memory, permission_at, bytes_from}
use Rattle.memory_model.specs.Ranges.{IsBounded}
use Rattle.call_model.specs.Block.{words}
use Rattle.space_model.specs.Block.{block_of}
use Rattle.space_model.specs.Space.{Top}
use Rattle.parcel_model.specs.Parcel.{Content, empty, resident, whole, Entry, Parcel, is_zero, spelling, limit_number}

-- the 4,096 bytes of a page
unfoldable pub page_bytes : Memory → ℕ → List ℕ
page_bytes m page = bytes_from m (page_size * page) page_size

-- the least number of a resident page with these bytes
unfoldable pub number_of : List (List ℕ) → List ℕ → Option ℕ
number_of known bytes = position_from (λ page. pointwise nat_eq page bytes) 0 known

abbrev pub numbered : Option ℕ → List ℕ → Content
numbered (Some number) bytes = resident number
numbered None bytes = whole bytes

-- how these bytes of a page travel
abbrev pub content_of : List (List ℕ) → List ℕ → Content
content_of known bytes = if is_zero bytes then empty else numbered (number_of known bytes) bytes

abbrev pub entry_of : List (List ℕ) → Memory → ℕ → Entry
entry_of known m page = record { page = page; permission = permission_at m page; content = content_of known (page_bytes m page) }

-- a page without a permission and without a byte other than 0
unfoldable pub is_unused : Memory → ℕ → Bool
is_unused m page = permission_at m page == 0 && is_zero (page_bytes m page)

-- of n pages from one on, those that are used
unfoldable pub entries_from : List (List ℕ) → Memory → ℕ → ℕ → List Entry
entries_from known m page zero = []
entries_from known m page (suc n) = if is_unused m page then entries_from known m (page + 1) n else entry_of known m page ∷ entries_from known m (page + 1) n

-- all pages that are used
abbrev pub entries_of : List (List ℕ) → Memory → List Entry
entries_of known m = entries_from known m 0 pages

abbrev pub snapshot_entries : List (List ℕ) → Option Memory → Option (List Entry)
snapshot_entries known None = None
snapshot_entries known (Some m) = Some (entries_of known m)

abbrev pub parcel_of : List (List ℕ) → Top → Parcel
parcel_of known t = record { block = block_of t; limit = t.limit; fuel = t.fuel; used = t.used; memory = entries_of known t.memory; snapshot = snapshot_entries known t.snapshot }

-- the bytes that are written
abbrev pub parcel_bytes : List (List ℕ) → Top → List ℕ
parcel_bytes known t = spelling (parcel_of known t)

abbrev pub IsBoundedIn : Option Memory → Type 0
IsBoundedIn None = Unit {0}
IsBoundedIn (Some m) = IsBounded m

-- what every top keeps that the kernel holds: numbers of 32 bits, x0 is 0, memory and snapshot are bounded; and it has no devices
pub record IsPackable (t : Top) : Type 0 where
  pub registers : length t.registers.x ≡ 32
  pub zero : slice_index t.registers.x 0 ≡ 0
  pub words : (k : ℕ) → slice_index (words (block_of t)) k < 2 ^ 32
  pub limit : limit_number t.limit < 2 ^ 32
  pub fuel : t.fuel + t.used < 2 ^ 32
  pub some : 1 ≤ t.fuel + t.used
  pub memory : IsBounded t.memory
  pub snapshot : IsBoundedIn t.snapshot
  pub devices : t.devices ≡ None
