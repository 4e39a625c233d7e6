-- The options of Put and Get (OSDI 2010, "Efficient System-Enforced Deterministic Parallelism", the section on the kernel
-- interface), as bits of a0, and what they ask of one another and of ranges of memory.
-- Source: OSDI 2010, "Efficient System-Enforced Deterministic Parallelism", the kernel interface: the options of Put and Get.
-- Our choice: Agree, the bits, and which do not stand together.
use Rattle.std.specs.Prelude.{◌≡◌, ◌≤◌, ℕ, ◌+◌, ◌/◌, ◌%◌, ◌^◌, ◌==◌, Bool, not, ◌&&◌, ◌||◌, nat_lt, bit_and}
use Rattle.memory_model.specs.Sizes.{page_size}
use Rattle.call_model.specs.Limits.{last_block}

abbrev pub regs : ℕ
regs = 1

abbrev pub copy : ℕ
copy = 2

abbrev pub zeroing : ℕ
zeroing = 4

abbrev pub merging : ℕ
merging = 8

abbrev pub perm : ℕ
perm = 16

abbrev pub snap : ℕ
snap = 32

abbrev pub start : ℕ
start = 64

abbrev pub limit_option : ℕ
limit_option = 128

abbrev pub tree : ℕ
tree = 256

abbrev pub agreeing : ℕ
agreeing = 512

-- the bits of the permission
abbrev pub permission_bits : ℕ
permission_bits = 28672

-- all bits that may be set
abbrev pub known_bits : ℕ
known_bits = 29695

-- one of these bits is among the options
abbrev pub has : ℕ → ℕ → Bool
has bits options = not (bit_and options bits == 0)

-- bits 12 to 14, as a number from 0 to 7
abbrev pub permission : ℕ → ℕ
permission options = options / 4096 % 8

-- a bit that is no option and not of the permission
abbrev pub has_unknown : ℕ → Bool
has_unknown options = not (bit_and options known_bits == options)

-- two of Copy, Zero and Merge
abbrev pub has_two_changes : ℕ → Bool
has_two_changes options = (has copy options && has zeroing options) || ((has copy options || has zeroing options) && has merging options)

-- permission bits without Perm; two of Copy, Zero and Merge; Agree without Merge; Tree with any other bit
abbrev pub has_clash : ℕ → Bool
has_clash options =
    (has permission_bits options && not (has perm options))
    || (has_two_changes options || ((has agreeing options && not (has merging options)) || (has tree options && not (options == tree))))

-- Limit without Start, or Merge
unfoldable pub wrong_put_options : ℕ → Bool
wrong_put_options options = has_unknown options || (has_clash options || ((has limit_option options && not (has start options)) || has merging options))

-- Snap, Start or Limit
unfoldable pub wrong_get_options : ℕ → Bool
wrong_get_options options = has_unknown options || (has_clash options || (has snap options || (has start options || has limit_option options)))

-- the end is above the memory's
abbrev pub passes_end : ℕ → ℕ → Bool
passes_end address size = nat_lt (2 ^ 32) (address + size)

-- no range of whole pages: an address or a size that is no multiple of a page's, or an end above the memory's
abbrev pub wrong_range : ℕ → ℕ → Bool
wrong_range address size = not (address % page_size == 0) || (not (size % page_size == 0) || passes_end address size)

-- whole pages that end within memory
pub record IsRange (address size : ℕ) : Type 0 where
  pub first : address % page_size ≡ 0
  pub whole : size % page_size ≡ 0
  pub within : address + size ≤ 2 ^ 32

-- one of the options that change a range of the destination's memory
abbrev pub has_range : ℕ → Bool
has_range options = has copy options || (has zeroing options || (has merging options || has perm options))

-- with Copy, Zero, Merge or Perm the destination, with Copy the source too
unfoldable pub wrong_pages : ℕ → ℕ → ℕ → ℕ → Bool
wrong_pages options source destination size = (has_range options && wrong_range destination size) || (has copy options && wrong_range source size)

-- with Regs: an address that is no multiple of 4, or from which on there are not 136 bytes
unfoldable pub wrong_block_address : ℕ → ℕ → Bool
wrong_block_address options block = has regs options && (not (block % 4 == 0) || nat_lt last_block block)
