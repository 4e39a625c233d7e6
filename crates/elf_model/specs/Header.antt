-- The fields of an executable file that are read, each by its offset: those of the file header, and those of a program header that begins at
-- an offset. Numbers are little endian. Section headers, physical addresses, alignments and all other fields are not read.
-- Source: System V Application Binary Interface, "ELF Header" and "Program Header"; RISC-V ELF psABI, "File Header", e_flags.
-- Our choice: which fields are read.
use Rattle.std.specs.Prelude.{ℕ, ◌+◌, ◌*◌, ◌/◌, ◌%◌, List, ◌∷◌, slice_index, take, drop, codes}
use Rattle.std.specs.Int.{Width, w16, w32, byte_len, from_le_bytes}

-- the number whose bytes stand from an offset on, the least first
abbrev pub number_in : Width → ℕ → List ℕ → ℕ
number_in w at bytes = from_le_bytes w (take (byte_len w) (drop at bytes))

-- ---- the file header

-- how many bytes it has
abbrev pub file_header_size : ℕ
file_header_size = 52

-- EI_MAG0 to EI_MAG3: the bytes that a file begins with
abbrev pub mark : List ℕ
mark = 127 ∷ codes "ELF"

abbrev pub mark_of : List ℕ → ℕ
mark_of bytes = number_in w32 0 bytes

-- EI_CLASS: 1 is a file of 32 bits
abbrev pub class_of : List ℕ → ℕ
class_of bytes = slice_index bytes 4

-- EI_DATA: 1 is little endian
abbrev pub encoding_of : List ℕ → ℕ
encoding_of bytes = slice_index bytes 5

-- EI_VERSION: 1
abbrev pub ident_version_of : List ℕ → ℕ
ident_version_of bytes = slice_index bytes 6

-- e_type: 2 is an executable file whose addresses are its own
abbrev pub file_type_of : List ℕ → ℕ
file_type_of bytes = number_in w16 16 bytes

-- e_machine: 243 is RISC-V
abbrev pub machine_of : List ℕ → ℕ
machine_of bytes = number_in w16 18 bytes

-- e_version: 1
abbrev pub version_of : List ℕ → ℕ
version_of bytes = number_in w32 20 bytes

-- e_entry: where the program begins
abbrev pub entry_of : List ℕ → ℕ
entry_of bytes = number_in w32 24 bytes

-- e_phoff: the offset of the program headers
abbrev pub headers_of : List ℕ → ℕ
headers_of bytes = number_in w32 28 bytes

-- e_flags
abbrev pub flags_of : List ℕ → ℕ
flags_of bytes = number_in w32 36 bytes

-- EF_RISCV_RVC, bit 1: the code has compressed instructions
abbrev pub compressed_of : List ℕ → ℕ
compressed_of bytes = flags_of bytes % 2

-- EF_RISCV_FLOAT_ABI, bits 6: floats are passed in registers of their own
abbrev pub float_interface_of : List ℕ → ℕ
float_interface_of bytes = flags_of bytes / 2 % 4

-- e_phentsize: how many bytes a program header has
abbrev pub entry_size_of : List ℕ → ℕ
entry_size_of bytes = number_in w16 42 bytes

-- e_phnum: how many program headers there are
abbrev pub header_count_of : List ℕ → ℕ
header_count_of bytes = number_in w16 44 bytes

-- ---- a program header

-- how many bytes it has
abbrev pub program_header_size : ℕ
program_header_size = 32

-- p_type: 1 is a load, 2 names what a dynamic linker needs, 3 the dynamic linker
abbrev pub type_at : ℕ → List ℕ → ℕ
type_at at bytes = number_in w32 at bytes

-- p_offset: where its bytes stand in the file
abbrev pub offset_at : ℕ → List ℕ → ℕ
offset_at at bytes = number_in w32 (at + 4) bytes

-- p_vaddr: the address of its first byte
abbrev pub address_at : ℕ → List ℕ → ℕ
address_at at bytes = number_in w32 (at + 8) bytes

-- p_filesz: how many bytes it has in the file
abbrev pub file_size_at : ℕ → List ℕ → ℕ
file_size_at at bytes = number_in w32 (at + 16) bytes

-- p_memsz: how many bytes it has in memory
abbrev pub memory_size_at : ℕ → List ℕ → ℕ
memory_size_at at bytes = number_in w32 (at + 20) bytes

-- p_flags
abbrev pub rights_at : ℕ → List ℕ → ℕ
rights_at at bytes = number_in w32 (at + 24) bytes

-- the permission of p_flags, where PF_X is bit 1, PF_W bit 2 and PF_R bit 4: 1 reads, 2 writes, 4 executes
abbrev pub permission_of_rights : ℕ → ℕ
permission_of_rights rights = rights / 4 % 2 + 2 * (rights / 2 % 2) + 4 * (rights % 2)
