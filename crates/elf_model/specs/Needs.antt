-- What an executable file needs to have, need by need in the order in which they are tried, each with the place and the kind of the fault of a
-- file that has it not.
-- Source: System V Application Binary Interface, "ELF Header" and "Program Header"; RISC-V ELF psABI, "File Header".
-- Our choice: the needs, their order, and where each fault is said to be.
use Rattle.std.specs.Prelude.{◌≡◌, ℕ, zero, suc, ◌+◌, ◌*◌, Bool, true, false, not, ◌||◌, ◌==◌, nat_le, nat_lt, cond, List, [], ◌∷◌, ◌++◌, length}
use Rattle.std.specs.Int.{w32, from_le_bytes}
use Rattle.std.specs.List.{All, sum_by}
use Rattle.elf_model.specs.declared.error.ElfError.{ElfError}
use Rattle.elf_model.specs.declared.error.ElfKind.{ElfKind}
use Rattle.elf_model.specs.declared.error.ElfKind.TheVariants.{Truncated, Magic, Class, Encoding, Version, Filetype, Machine, Flags, Entries, Count, Dynamic, Order, Size, Range, TooBig}
use Rattle.elf_model.specs.Header.{file_header_size, mark, mark_of, class_of, encoding_of, ident_version_of, file_type_of, machine_of, version_of, headers_of, compressed_of, float_interface_of, entry_size_of, header_count_of, program_header_size, type_at, offset_at, address_at, file_size_at, memory_size_at}
use Rattle.elf_model.specs.Loads.{Load, end_of, is_load, loads_at, stack_base}

-- whether the file has what it needs, and the fault if not
pub record Need : Type 0 where
  pub met : Bool
  pub at : ℕ
  pub kind : ElfKind

abbrev pub need : Bool → ℕ → ElfKind → Need
need met at kind = record { met = met; at = at; kind = kind }

-- ---- limits

abbrev pub greatest_headers : ℕ
greatest_headers = 64

abbrev pub greatest_loads : ℕ
greatest_loads = 32

-- the bytes of memory of all loads together
abbrev pub greatest_memory : ℕ
greatest_memory = 16777216

-- ---- the file header

-- that it is a file of this format
abbrev pub identity_needs : List ℕ → List Need
identity_needs bytes =
    need (nat_le file_header_size (length bytes)) 0 Truncated
    ∷ need (mark_of bytes == from_le_bytes w32 mark) 0 Magic
    ∷ need (class_of bytes == 1) 4 Class
    ∷ need (encoding_of bytes == 1) 5 Encoding
    ∷ need (ident_version_of bytes == 1) 6 Version
    ∷ []

-- that it is a program for this machine
abbrev pub machine_needs : List ℕ → List Need
machine_needs bytes =
    need (file_type_of bytes == 2) 16 Filetype
    ∷ need (machine_of bytes == 243) 18 Machine
    ∷ need (version_of bytes == 1) 20 Version
    ∷ need (compressed_of bytes + float_interface_of bytes == 0) 36 Flags
    ∷ []

-- that its program headers are there
abbrev pub table_needs : List ℕ → List Need
table_needs bytes =
    need ((header_count_of bytes == 0) || (entry_size_of bytes == program_header_size)) 42 Entries
    ∷ need (nat_le (header_count_of bytes) greatest_headers) 44 Count
    ∷ need ((header_count_of bytes == 0) || nat_le (headers_of bytes + program_header_size * header_count_of bytes) (length bytes)) 28 Truncated
    ∷ []

abbrev pub file_needs : List ℕ → List Need
file_needs bytes = identity_needs bytes ++ (machine_needs bytes ++ table_needs bytes)

-- ---- the program headers, each after the loads of those before it

-- the end of the last of these loads, or what it is without any
abbrev pub end_after : ℕ → List Load → ℕ
end_after from [] = from
end_after from (l ∷ ls) = end_after (end_of l) ls

abbrev pub memory_of : List Load → ℕ
memory_of ls = sum_by (λ l. l.size) ls

abbrev pub load_needs : List Load → ℕ → List ℕ → List Need
load_needs before at bytes =
    need (nat_lt (length before) greatest_loads) at Count
    ∷ need (nat_le (end_after 0 before) (address_at at bytes)) (at + 8) Order
    ∷ need ((file_size_at at bytes == 0) || nat_le (offset_at at bytes + file_size_at at bytes) (length bytes)) (at + 4) Truncated
    ∷ need (nat_le (file_size_at at bytes) (memory_size_at at bytes)) (at + 16) Size
    ∷ need (nat_le (address_at at bytes + memory_size_at at bytes) stack_base) (at + 20) Range
    ∷ need (nat_le (memory_of before + memory_size_at at bytes) greatest_memory) (at + 20) TooBig
    ∷ []

-- a header that states no load needs only to be of a type that wants no dynamic linker
abbrev pub header_needs : List Load → ℕ → List ℕ → List Need
header_needs before at bytes =
    need (not ((type_at at bytes == 2) || (type_at at bytes == 3))) at Dynamic
    ∷ cond (is_load at bytes) (load_needs before at bytes) []

-- of so many program headers from this offset on
unfoldable pub headers_need : List Load → ℕ → ℕ → List ℕ → List Need
headers_need before at zero bytes = []
headers_need before at (suc n) bytes = header_needs before at bytes ++ headers_need (before ++ loads_at at bytes) (at + program_header_size) n bytes

abbrev pub needs : List ℕ → List Need
needs bytes = file_needs bytes ++ headers_need [] (headers_of bytes) (header_count_of bytes) bytes

-- ---- the first fault

abbrev pub fault_of : Need → ElfError
fault_of n = record { at = n.at; kind = n.kind }

abbrev pub AreMet : List Need → Type 0
AreMet ns = All (λ n. n.met ≡ true) ns

-- the first need that is not met
pub record IsFirstFault (ns : List Need) (e : ElfError) : Type 0 where
  pub before : List Need
  pub missed : Need
  pub after : List Need
  pub parts : ns ≡ before ++ missed ∷ after
  pub met_before : AreMet before
  pub not_met : missed.met ≡ false
  pub fault : e ≡ fault_of missed
