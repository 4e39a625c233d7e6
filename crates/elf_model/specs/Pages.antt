-- The memory that loads state: of each address its byte, of each page its permission. And its segments: the maximal runs of adjoining pages
-- that loads touch and that have one permission.
-- Source: System V Application Binary Interface, "Program Loading"; RISC-V Privileged ISA, the R, W and X bits of a page table entry.
-- Our choice: that a page has the permissions of all loads that touch it.
use Rattle.std.specs.Prelude.{◌≡◌, ◌≢◌, ℕ, ◌+◌, ◌-◌, ◌*◌, ◌/◌, ◌≤◌, ◌<◌, Bool, true, false, ◌&&◌, nat_le, nat_lt, cond, List, [], ◌∷◌, length, map, slice_index, bit_or}
use Rattle.std.specs.List.{list_any, range_with_len}
use Rattle.memory_model.specs.Memory.{Memory, byte_at, permission_at}
use Rattle.memory_model.specs.Sizes.{page_size}
use Rattle.image_model.specs.Image.{Segment}
use Rattle.elf_model.specs.Loads.{Load, end_of}

-- ---- memory

-- the byte at an address: the one that a load has there, and else 0
abbrev pub byte_of : List Load → ℕ → ℕ
byte_of [] a = 0
byte_of (l ∷ ls) a = cond (nat_le l.address a && nat_lt a (l.address + length l.content)) (slice_index l.content (a - l.address)) (byte_of ls a)

-- the pages of its first byte and of its last
abbrev pub first_page : Load → ℕ
first_page l = l.address / page_size

abbrev pub last_page : Load → ℕ
last_page l = (end_of l - 1) / page_size

abbrev pub touches : ℕ → Load → Bool
touches page l = nat_le (first_page l) page && nat_le page (last_page l)

-- a load touches the page
abbrev pub is_touched : List Load → ℕ → Bool
is_touched ls page = list_any (touches page) ls

-- what any load that touches the page lets do, it lets do
abbrev pub permission_of : List Load → ℕ → ℕ
permission_of [] page = 0
permission_of (l ∷ ls) page = cond (touches page l) (bit_or l.permission (permission_of ls page)) (permission_of ls page)

-- a memory that has at each address the byte, and of each page the permission, that loads state
pub record HasMemory (ls : List Load) (m : Memory) : Type 0 where
  pub byte : (a : ℕ) → byte_at m a ≡ byte_of ls a
  pub permission : (page : ℕ) → permission_at m page ≡ permission_of ls page

-- ---- runs of pages

-- adjoining pages with one permission: from the first one on, and before the end
pub record Run : Type 0 where
  pub first : ℕ
  pub end : ℕ
  pub permission : ℕ

-- A maximal run among the pages from one on: no page before it is touched, all of its pages are and have its permission, and the page behind
-- it is not touched or has another one.
pub record IsRun (touched : ℕ → Bool) (permission : ℕ → ℕ) (from : ℕ) (r : Run) : Type 0 where
  pub order : from ≤ r.first
  pub none_before : (page : ℕ) → from ≤ page → page < r.first → touched page ≡ false
  pub filled : r.first < r.end
  pub alike : (page : ℕ) → r.first ≤ page → page < r.end → (touched page ≡ true) × (permission page ≡ r.permission)
  pub maximal : touched r.end ≡ true → permission r.end ≢ r.permission

-- all maximal runs from a page on, by their addresses
abbrev pub AreRuns : (ℕ → Bool) → (ℕ → ℕ) → ℕ → List Run → Type 0
AreRuns touched permission from [] = (page : ℕ) → from ≤ page → touched page ≡ false
AreRuns touched permission from (r ∷ rs) = IsRun touched permission from r × AreRuns touched permission r.end rs

-- the runs of loads
abbrev pub RunsOf : List Load → List Run → Type 0
RunsOf ls rs = AreRuns (is_touched ls) (permission_of ls) 0 rs

-- ---- segments

-- a run's pages with the bytes that loads have there
abbrev pub segment_of : List Load → Run → Segment
segment_of ls r = record { address = page_size * r.first; permission = r.permission; content = map (byte_of ls) (range_with_len (page_size * r.first) (page_size * (r.end - r.first))) }
