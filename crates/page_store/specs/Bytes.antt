-- A page of 4,096 bytes, as the list of its bytes.
-- Our choice: a restatement for proofs.
use Rattle.std.specs.Prelude.{◌≡◌, Bool, true, false, ℕ, ◌+◌, ◌/◌, ◌%◌, ◌<◌, List, ◌++◌, take, drop, length, slice_index, slice_set}
use Rattle.std.specs.Arc.{arc_value}
use Rattle.memory_model.specs.Sizes.{page_size}
use Rattle.memory_model.specs.declared.Width.{Width}
use Rattle.memory_model.specs.declared.Width.TheVariants.{One, Two, Four}
use Rattle.page_store.specs.declared.PageRef.{PageRef}
use Rattle.page_store.specs.declared.PageRef.TheVariants.{Shared, Own}

-- the bytes that a reference to a page leads to
abbrev pub bytes_of : PageRef → List ℕ
bytes_of (Shared page) = (arc_value page).value.bytes
bytes_of (Own page) = page.value.bytes

-- whether a page is its holder's own, so that a write to it takes no memory and changes no other
abbrev pub is_own : PageRef → Bool
is_own (Shared page) = false
is_own (Own page) = true

-- 4,096 numbers below 256
pub record IsPage (bytes : List ℕ) : Type 0 where
  pub sized : length bytes ≡ page_size
  pub small : (k : ℕ) → slice_index bytes k < 256

-- a number's lowest bytes at a place of a page, the least first
abbrev pub with_number_in : List ℕ → ℕ → Width → ℕ → List ℕ
with_number_in bytes at One v = slice_set bytes at (v % 256)
with_number_in bytes at Two v = slice_set (slice_set bytes at (v % 256)) (at + 1) (v / 256 % 256)
with_number_in bytes at Four v = slice_set (slice_set (slice_set (slice_set bytes at (v % 256)) (at + 1) (v / 256 % 256)) (at + 2) (v / 65536 % 256)) (at + 3) (v / 16777216 % 256)

-- these bytes from a place of a page on, between what stands before and after them
abbrev pub with_bytes_in : List ℕ → ℕ → List ℕ → List ℕ
with_bytes_in page at bytes = take at page ++ (bytes ++ drop (at + length bytes) page)
