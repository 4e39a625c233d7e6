-- The loads of an executable file: bytes of the file that stand in memory from an address on, and zeros after them.
-- Source: System V Application Binary Interface, "Program Header", PT_LOAD.
-- Our choice: the stack, and what every file may have of each.
use Rattle.std.specs.Prelude.{ℕ, zero, suc, ◌+◌, ◌*◌, ◌≤◌, ◌<◌, Bool, not, ◌&&◌, ◌==◌, cond, List, [], ◌∷◌, ◌++◌, length, take, drop}
use Rattle.memory_model.specs.Sizes.{page_size, greatest_permission}
use Rattle.elf_model.specs.Header.{program_header_size, headers_of, header_count_of, type_at, offset_at, address_at, file_size_at, memory_size_at, rights_at, permission_of_rights}

-- where its first byte stands, how many bytes of memory it has, what its pages may be used for, and its bytes, from the first one on
pub record Load : Type 0 where
  pub address : ℕ
  pub size : ℕ
  pub permission : ℕ
  pub content : List ℕ

-- the address behind its last byte
abbrev pub end_of : Load → ℕ
end_of l = l.address + l.size

-- ---- loads in their order

-- a load that begins at this address or above it and ends at that one or below it
pub record IsLoad (from end : ℕ) (l : Load) : Type 0 where
  pub order : from ≤ l.address
  pub filled : 0 < l.size
  pub sized : length l.content ≤ l.size
  pub range : end_of l ≤ end
  pub permission : l.permission ≤ greatest_permission

-- loads one above the other
abbrev pub AreLoads : ℕ → ℕ → List Load → Type 0
AreLoads from end [] = Unit {0}
AreLoads from end (l ∷ ls) = IsLoad from end l × AreLoads (end_of l) end ls

-- ---- the loads of a file

abbrev pub is_load : ℕ → List ℕ → Bool
is_load at bytes = (type_at at bytes == 1) && not (memory_size_at at bytes == 0)

abbrev pub load_at : ℕ → List ℕ → Load
load_at at bytes = record {
  address = address_at at bytes;
  size = memory_size_at at bytes;
  permission = permission_of_rights (rights_at at bytes);
  content = take (file_size_at at bytes) (drop (offset_at at bytes) bytes);
}

-- the load of the program header at this offset, where it states one
abbrev pub loads_at : ℕ → List ℕ → List Load
loads_at at bytes = cond (is_load at bytes) (load_at at bytes ∷ []) []

-- the loads of so many program headers from this offset on
unfoldable pub loads_from : ℕ → ℕ → List ℕ → List Load
loads_from at zero bytes = []
loads_from at (suc n) bytes = loads_at at bytes ++ loads_from (at + program_header_size) n bytes

abbrev pub loads_of : List ℕ → List Load
loads_of bytes = loads_from (headers_of bytes) (header_count_of bytes) bytes

-- ---- the stack

-- its first address, 0xFFFF0000, and its pages
abbrev pub stack_base : ℕ
stack_base = 4294901760

abbrev pub stack_pages : ℕ
stack_pages = 16

-- where the stack pointer begins, 0xFFFFFFF0
abbrev pub stack_pointer : ℕ
stack_pointer = 4294967280

-- the stack's pages, which are zeros that may be read and written, as one load more
abbrev pub stack : Load
stack = record { address = stack_base; size = page_size * stack_pages; permission = 3; content = [] }

-- all that stands in memory: the loads, and the stack
abbrev pub parts_of : List ℕ → List Load
parts_of bytes = loads_of bytes ++ stack ∷ []
