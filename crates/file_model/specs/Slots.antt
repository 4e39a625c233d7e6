-- The slots of files in a memory, by bytes that are counted from where slot 0 begins, each free or a file.
-- Source: OSDI 2010, "Efficient System-Enforced Deterministic Parallelism", the section on file system consistency: each space has a
-- file system in its memory, an image that its parent reads.
-- Our choice: the layout. A header, little endian, at the start of the slot, and the content from the next page on.
use Rattle.std.specs.Prelude.{ℕ, zero, suc, ◌+◌, ◌-◌, ◌*◌, ◌/◌, ◌%◌, ◌==◌, ◌&&◌, Bool, if◌then◌else◌, cond, List, [], ◌∷◌, ◌++◌, length, replicate, slice_index, Option, Some, None, nat_lt, nat_le, codes}
use Rattle.std.specs.Int.{w32, to_le_bytes, from_le_bytes}
use Rattle.file_model.specs.Sizes.{slot_count, slot_size, content_offset, greatest_length, greatest_name}
use Rattle.file_model.specs.File.{File, is_name}

-- ---- where the fields of a header stand in a slot, four bytes each but the name; the mark DTF1 stands before them

abbrev pub version_offset : ℕ
version_offset = 4

abbrev pub base_offset : ℕ
base_offset = 8

abbrev pub length_offset : ℕ
length_offset = 12

abbrev pub length_at_base_offset : ℕ
length_at_base_offset = 16

abbrev pub flags_offset : ℕ
flags_offset = 20

abbrev pub name_length_offset : ℕ
name_length_offset = 24

-- 32 bytes, padded with 0
abbrev pub name_offset : ℕ
name_offset = 28

-- ---- reading

-- the number of four bytes from an offset on, the least first
abbrev pub number_at : (ℕ → ℕ) → ℕ → ℕ
number_at bytes at = from_le_bytes w32 (bytes at ∷ bytes (at + 1) ∷ bytes (at + 2) ∷ bytes (at + 3) ∷ [])

-- n bytes from an offset on
unfoldable pub bytes_from : (ℕ → ℕ) → ℕ → ℕ → List ℕ
bytes_from bytes at zero = []
bytes_from bytes at (suc n) = bytes at ∷ bytes_from bytes (at + 1) n

-- where a slot begins
abbrev pub slot_start : ℕ → ℕ
slot_start k = slot_size * k

abbrev pub name_at : (ℕ → ℕ) → ℕ → List ℕ
name_at bytes at = bytes_from bytes (at + name_offset) (number_at bytes (at + name_length_offset))

-- the mark, lengths in range, flags that are known, and a name
abbrev pub is_in_use : (ℕ → ℕ) → ℕ → Bool
is_in_use bytes at =
    number_at bytes at == from_le_bytes w32 (codes "DTF1")
    && nat_le (number_at bytes (at + length_offset)) greatest_length
    && nat_le (number_at bytes (at + length_at_base_offset)) greatest_length
    && nat_lt (number_at bytes (at + flags_offset)) 8
    && is_name (name_at bytes at)

-- the flags: 1 append, 2 conflicted, 4 deleted
abbrev pub has_append : ℕ → Bool
has_append flags = flags % 2 == 1

abbrev pub has_conflicted : ℕ → Bool
has_conflicted flags = flags / 2 % 2 == 1

abbrev pub has_deleted : ℕ → Bool
has_deleted flags = flags / 4 % 2 == 1

-- what the fields of a slot that begins here hold
unfoldable pub file_at : (ℕ → ℕ) → ℕ → File
file_at bytes at = record {
  name = name_at bytes at;
  version = number_at bytes (at + version_offset);
  base = number_at bytes (at + base_offset);
  length_at_base = number_at bytes (at + length_at_base_offset);
  content = bytes_from bytes (at + content_offset) (number_at bytes (at + length_offset));
  append = has_append (number_at bytes (at + flags_offset));
  conflicted = has_conflicted (number_at bytes (at + flags_offset));
  deleted = has_deleted (number_at bytes (at + flags_offset));
}

-- slot k: free, or a file
unfoldable pub slot_at : (ℕ → ℕ) → ℕ → Option File
slot_at bytes k = if is_in_use bytes (slot_start k) then Some (file_at bytes (slot_start k)) else None

-- n slots from k on
unfoldable pub slots_from : (ℕ → ℕ) → ℕ → ℕ → List (Option File)
slots_from bytes k zero = []
slots_from bytes k (suc n) = slot_at bytes k ∷ slots_from bytes (k + 1) n

-- all 64
abbrev pub slots_of : (ℕ → ℕ) → List (Option File)
slots_of bytes = slots_from bytes 0 slot_count

-- ---- writing

abbrev pub flags_of : File → ℕ
flags_of f = cond f.append 1 0 + cond f.conflicted 2 0 + cond f.deleted 4 0

-- a name padded with 0
abbrev pub with_padding : List ℕ → List ℕ
with_padding name = name ++ replicate (greatest_name - length name) 0

-- the 60 bytes of a header: the mark, the fields, and the name
unfoldable pub header_bytes : File → List ℕ
header_bytes f =
    codes "DTF1"
    ++ to_le_bytes w32 f.version
    ++ to_le_bytes w32 f.base
    ++ to_le_bytes w32 (length f.content)
    ++ to_le_bytes w32 f.length_at_base
    ++ to_le_bytes w32 (flags_of f)
    ++ to_le_bytes w32 (length f.name)
    ++ with_padding f.name

-- these bytes from an offset on; all others stay
unfoldable pub with_bytes : (ℕ → ℕ) → ℕ → List ℕ → ℕ → ℕ
with_bytes bytes at part a = if nat_le at a && nat_lt a (at + length part) then slice_index part (a - at) else bytes a

-- slot k with a file: its header, and its content; all other bytes stay
unfoldable pub with_slot : (ℕ → ℕ) → ℕ → File → ℕ → ℕ
with_slot bytes k f = with_bytes (with_bytes bytes (slot_start k) (header_bytes f)) (slot_start k + content_offset) f.content
