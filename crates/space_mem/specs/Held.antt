-- What contracts see of a memory in its code: its bytes and permissions, which pages it owns, and which are dirty. An owned page has bytes
-- of the memory's own, so that a write to it takes no memory. A page is dirty where it may have changed since the last snapshot.
-- Our choice: what is said of pages beside the two maps.
use Rattle.std.specs.Prelude.{◌≡◌, ℕ, ◌+◌, ◌*◌, ◌/◌, ◌<◌, ◌≤◌, ◌⊎◌, Option, Some, None, refl}
use Rattle.std.specs.Coded.{Coded, coded×, code_by}
use Rattle.memory_model.specs.Sparse.{Sparse, coded_sparse, no_values, put, value_at}
use Rattle.memory_model.specs.Memory.{Memory, coded_memory, no_memory, byte_at, permission_at, with_byte, with_number}
use Rattle.memory_model.specs.Ranges.{with_row}
use Rattle.memory_model.specs.Sizes.{page_size, pages}
use Rattle.memory_model.specs.declared.Width.{Width}

-- each page that is owned, or dirty, has 1, and each other page 0: equal sets are equal values
pub record Held : Type 0 where
  pub memory : Memory
  pub owned : Sparse
  pub dirty : Sparse

abbrev pub coded_held : Coded Held
coded_held = code_by (Memory × (Sparse × Sparse)) (coded× coded_memory (coded× coded_sparse coded_sparse)) (λ h. (h.memory, (h.owned, h.dirty))) (λ p. record { memory = p.0; owned = p.1.0; dirty = p.1.1 }) (λ _. refl)

-- every byte and every permission is 0, and no page is owned or dirty
abbrev pub nothing_held : Held
nothing_held = record { memory = no_memory; owned = no_values; dirty = no_values }

abbrev pub Owns : Held → ℕ → Type 0
Owns h page = value_at h.owned page ≡ 1

-- a page that is not dirty
abbrev pub IsClean : Held → ℕ → Type 0
IsClean h page = value_at h.dirty page ≡ 0

-- the set of all pages
abbrev pub all_pages : Sparse
all_pages = with_row no_values 0 (λ _. 1) pages

-- a page is owned, and dirty, exactly where it was
pub record KeepsMarks (before after : Held) (page : ℕ) : Type 0 where
  pub owned : value_at after.owned page ≡ value_at before.owned page
  pub dirty : value_at after.dirty page ≡ value_at before.dirty page

-- a page that is not one of those from one to before another
abbrev pub IsOutside : ℕ → ℕ → ℕ → Type 0
IsOutside first end page = (page < first) ⊎ (end ≤ page)

-- each page outside of those from one to before another is owned, and dirty, exactly where it was
abbrev pub KeepsMarksOutside : ℕ → ℕ → Held → Held → Type 0
KeepsMarksOutside first end before after = (page : ℕ) → IsOutside first end page → KeepsMarks before after page

-- a page that has none of so many addresses from one on
abbrev pub HasNoneOf : ℕ → ℕ → ℕ → Type 0
HasNoneOf at count page = (k : ℕ) → k < count → (at + k) / page_size ≡ page → ⊥

-- two memories have the same bytes in a page
abbrev pub SamePage : Memory → Memory → ℕ → Type 0
SamePage m n page = (k : ℕ) → k < page_size → byte_at m (page_size * page + k) ≡ byte_at n (page_size * page + k)

-- each page that is clean afterwards was clean before, and has the same bytes
abbrev pub Marks : Held → Held → Type 0
Marks before after = (page : ℕ) → page < pages → IsClean after page → IsClean before page × SamePage after.memory before.memory page

-- outside of its dirty pages a memory has the bytes of this one, its snapshot
abbrev pub Covers : Held → Memory → Type 0
Covers h snapshot = (page : ℕ) → page < pages → IsClean h page → SamePage h.memory snapshot page

-- the same, where there is a snapshot
abbrev pub CoversIn : Held → Option Held → Type 0
CoversIn h None = Unit {0}
CoversIn h (Some snapshot) = Covers h snapshot.memory

-- a page is owned and dirty from then on
abbrev pub owning : Held → ℕ → Memory → Held
owning h page m = record { memory = m; owned = put h.owned page 1; dirty = put h.dirty page 1 }

-- a number is stored at an aligned address
abbrev pub with_stored : Held → ℕ → Width → ℕ → Held
with_stored h at width v = owning h (at / page_size) (with_number h.memory at width v)

-- a byte is written
abbrev pub with_written : Held → ℕ → ℕ → Held
with_written h at v = owning h (at / page_size) (with_byte h.memory at v)

-- the bytes and permissions of a memory, where there is one
abbrev pub memory_in : Option Held → Option Memory
memory_in None = None
memory_in (Some h) = Some h.memory

-- the next dirty page from n on
pub record IsNextDirty (h : Held) (n page : ℕ) : Type 0 where
  pub above : n ≤ page
  pub below : page < pages
  pub dirty : IsClean h page → ⊥
  pub clean : (q : ℕ) → n ≤ q → q < page → IsClean h q

-- no page from n on and before another is dirty
abbrev pub AllClean : Held → ℕ → ℕ → Type 0
AllClean h n end = (q : ℕ) → n ≤ q → q < end → IsClean h q

-- the pages from n on and before another have no byte other than 0
abbrev pub AllZero : Memory → ℕ → ℕ → Type 0
AllZero m n end = (q k : ℕ) → n ≤ q → q < end → k < page_size → byte_at m (page_size * q + k) ≡ 0

-- the pages from one to before another have the permission of the first
abbrev pub HaveOnePermission : Memory → ℕ → ℕ → Type 0
HaveOnePermission m n end = (q : ℕ) → n ≤ q → q < end → permission_at m q ≡ permission_at m n

-- the next page from one to before another of which bytes are kept
pub record IsNextKept (m : Memory) (from end page : ℕ) : Type 0 where
  pub above : from ≤ page
  pub below : page < end
  pub zero : AllZero m from page
