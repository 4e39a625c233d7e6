-- The symbols of a file in the format ELF32, little endian: entries of its symbol table that name a place in memory.
-- Source: System V Application Binary Interface, "Symbol Table" and "String Table"; RISC-V ELF psABI, "Mapping Symbol", whose names begin with `$`.
-- Our choice: which names are shown, and that names of more than 1,024 bytes are not.
use Rattle.std.specs.Prelude.{ℕ, ◌+◌, ◌*◌, ◌/◌, ◌%◌, Bool, not, ◌&&◌, ◌==◌, nat_le, nat_lt, if◌then◌else◌, List, [], length, take, drop, slice_index, Option, Some, None}
use Rattle.std.specs.Int.{w16, w32}
use Rattle.std.specs.List.{before_first, filter_map, list_all, range_with_len}
use Rattle.std.specs.Option.{option_map_or}
use Rattle.elf_model.specs.Header.{number_in}
use Rattle.symbols.specs.Symbols.{Symbol}
use Rattle.image_symbols.specs.Sections.{tables_of}

-- ---- names

abbrev pub longest : ℕ
longest = 1024

-- the bytes from an offset of a string table on, up to the next 0 or the end; of more than the longest name, one byte more than that
abbrev pub name_at : List ℕ → ℕ → List ℕ
name_at names at = before_first (λ b. b == 0) (take (longest + 1) (drop at names))

-- `!` to `~`
abbrev pub is_printable : ℕ → Bool
is_printable b = nat_le 33 b && nat_le b 126

-- neither a mapping symbol nor, with `.` in front, a label of an assembler's own
abbrev pub is_name : List ℕ → Bool
is_name name = nat_lt 0 (length name) && nat_le (length name) longest && list_all is_printable name && not (slice_index name 0 == 36) && not (slice_index name 0 == 46)

-- ---- entries

-- how many bytes an entry has
abbrev pub entry_size : ℕ
entry_size = 16

-- st_info, of which the low four bits are the type: 0 is none, 1 data, 2 a function; and st_shndx, which is 0 where the file does not define the symbol
abbrev pub is_place : ℕ → List ℕ → Bool
is_place at table = nat_le (slice_index table (at + 12) % 16) 2 && not (number_in w16 (at + 14) table == 0)

-- the symbol of an entry, where it names a place: st_name and st_value
abbrev pub symbol_at : List ℕ → List ℕ → ℕ → Option Symbol
symbol_at table names at =
    let name = name_at names (number_in w32 at table) in
    if is_place at table && is_name name then Some (record { address = number_in w32 (at + 4) table; name = name }) else None

-- in the order of the table
unfoldable pub symbols_in : List ℕ → List ℕ → List Symbol
symbols_in table names = filter_map (λ k. symbol_at table names (entry_size * k)) (range_with_len 0 (length table / entry_size))

-- none of any other file, and of one whose tables do not lie in it
abbrev pub elf_symbols : List ℕ → List Symbol
elf_symbols bytes = option_map_or (λ t. symbols_in t.0 t.1) (tables_of bytes) []
