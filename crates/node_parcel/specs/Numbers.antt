-- The numbers of resident pages, found by their bytes, and the pages as those of a memory.
-- Our choice: how the list is kept.
use Rattle.std.specs.Prelude.{◌≡◌, ℕ, ◌+◌, ◌*◌, ◌<◌, List, length, slice_index}
use Rattle.std.specs.BTreeMap.{BTreeMap, get}
use Rattle.std.specs.Cmp.Lexicographic.{slice_cmp}
use Rattle.std.specs.Ordering.{nat_cmp}
use Rattle.memory_model.specs.Memory.{Memory, byte_at}
use Rattle.memory_model.specs.Sizes.{page_size}
use Rattle.parcel_model.specs.Parcel.{page_in}
use Rattle.parcel_model.specs.Packing.{number_of}
use Rattle.parcel_model.specs.Residents.{AreResidents}

-- each page has its number in the map, and no other bytes have one
pub record AreNumbers (numbers : BTreeMap (List ℕ) ℕ) (known : List (List ℕ)) : Type 0 where
  pub sound : AreResidents known
  pub found : (bytes : List ℕ) → get (slice_cmp nat_cmp) numbers bytes ≡ number_of known bytes

-- the first pages of a memory have the bytes of these
abbrev pub HasPages : Memory → List (List ℕ) → Type 0
HasPages m known = (n k : ℕ) → n < length known → k < page_size → byte_at m (page_size * n + k) ≡ slice_index (page_in known n) k

-- what is kept of a list of resident pages
pub record AreKept (numbers : BTreeMap (List ℕ) ℕ) (m : Memory) (known : List (List ℕ)) : Type 0 where
  pub found : AreNumbers numbers known
  pub held : HasPages m known
