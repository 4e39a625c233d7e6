-- The sections of a file in the format ELF32, little endian, and its symbol table among them.
-- Source: System V Application Binary Interface, "ELF Header", "Sections" and "Symbol Table", the field sh_link.
-- Our choice: that a file with more sections than its header can count has none; that the first symbol table counts.
use Rattle.std.specs.Prelude.{ℕ, ◌+◌, ◌*◌, Bool, ◌&&◌, ◌==◌, nat_le, if◌then◌else◌, List, map, length, take, drop, slice_get, Option, Some, None, option_and_then, option_map}
use Rattle.std.specs.Int.{from_le_bytes, w16, w32}
use Rattle.std.specs.List.{find, range_with_len}
use Rattle.elf_model.specs.Header.{class_of, encoding_of, file_header_size, mark, mark_of, number_in}

-- ---- the file header

-- e_shoff: the offset of the section headers
abbrev pub headers_at : List ℕ → ℕ
headers_at bytes = number_in w32 32 bytes

-- e_shentsize: how many bytes a section header has
abbrev pub header_size_of : List ℕ → ℕ
header_size_of bytes = number_in w16 46 bytes

-- e_shnum: how many section headers there are
abbrev pub count_of : List ℕ → ℕ
count_of bytes = number_in w16 48 bytes

-- ---- section headers

-- how many bytes one has
abbrev pub header_size : ℕ
header_size = 40

-- what is read of one: sh_type, of which 2 is a symbol table; where its bytes stand in the file, and how many; sh_link, of a symbol table the number of the section that has its names
pub record Section : Type 0 where
  pub kind : ℕ
  pub offset : ℕ
  pub size : ℕ
  pub link : ℕ

abbrev pub section_at : ℕ → List ℕ → Section
section_at at bytes = record { kind = number_in w32 (at + 4) bytes; offset = number_in w32 (at + 16) bytes; size = number_in w32 (at + 20) bytes; link = number_in w32 (at + 24) bytes }

-- a file of this format
abbrev pub is_of_format : List ℕ → Bool
is_of_format bytes = nat_le file_header_size (length bytes) && (mark_of bytes == from_le_bytes w32 mark) && (class_of bytes == 1) && (encoding_of bytes == 1)

-- and it has its section headers whole
abbrev pub has_sections : List ℕ → Bool
has_sections bytes = is_of_format bytes && (header_size_of bytes == header_size) && nat_le (headers_at bytes + header_size * count_of bytes) (length bytes)

-- so many sections, whose headers stand one behind the other from an offset on
unfoldable pub sections_from : ℕ → ℕ → List ℕ → List Section
sections_from at count bytes = map (λ k. section_at (at + header_size * k) bytes) (range_with_len 0 count)

abbrev pub sections_of : List ℕ → List Section
sections_of bytes = sections_from (headers_at bytes) (count_of bytes) bytes

-- a section's bytes, where the file has them whole
abbrev pub content_of : List ℕ → Section → Option (List ℕ)
content_of bytes s = if nat_le (s.offset + s.size) (length bytes) then Some (take s.size (drop s.offset bytes)) else None

-- ---- the symbol table

abbrev pub is_symbol_table : Section → Bool
is_symbol_table s = s.kind == 2

-- the symbol table of sections and the section that has its names
abbrev pub table_sections : List Section → Option (Section × Section)
table_sections sections = option_and_then (λ t. option_map (λ n. (t, n)) (slice_get sections t.link)) (find is_symbol_table sections)

-- their bytes, where the file has both whole
abbrev pub contents_of : List ℕ → Section × Section → Option (List ℕ × List ℕ)
contents_of bytes s = option_and_then (λ table. option_map (λ names. (table, names)) (content_of bytes s.1)) (content_of bytes s.0)

unfoldable pub tables_of : List ℕ → Option (List ℕ × List ℕ)
tables_of bytes = if has_sections bytes then option_and_then (contents_of bytes) (table_sections (sections_of bytes)) else None
