-- The slots of files in a memory: which of them may be written without taking memory, and what a write to them leaves as it is.
-- Our choice: that a slot is ready where the memory owns each of its pages, and that its header may be written where the first page is owned.
use Rattle.std.specs.Prelude.{◌≡◌, ℕ, ◌+◌, ◌*◌, ◌/◌, ◌%◌, ◌^◌, ◌<◌, ◌≤◌, ◌⊎◌, Bool, true, false, List, get_or}
use Rattle.memory_model.specs.Memory.{Memory, byte_at}
use Rattle.file_model.specs.Sizes.{first_address, slot_count, all_slots_size, content_offset}
use Rattle.file_model.specs.Slots.{slot_start}
use Rattle.space_model.specs.Files.{file_bytes}
use Rattle.file_image.specs.Spared.{spared_in}
use Rattle.space_mem.specs.Held.{Held, IsOutside, KeepsMarks, Owns, Marks}

-- the page that the first slot begins with, at the first address of the slots
abbrev pub first_page : ℕ
first_page = 0xC0000

-- the pages of a slot: one of its header, and those of its content
abbrev pub slot_pages : ℕ
slot_pages = 16

-- the page that slot k begins with
abbrev pub slot_page : ℕ → ℕ
slot_page k = first_page + slot_pages * k

-- the memory owns n pages from the start of slot k on
abbrev pub OwnsSlot : Held → ℕ → ℕ → Type 0
OwnsSlot h n k = (page : ℕ) → slot_page k ≤ page → page < slot_page k + n → Owns h page

abbrev pub has_slot : List Bool → ℕ → Bool
has_slot slots k = get_or slots k false

-- the memory owns n pages from the start of each of these slots on
abbrev pub OwnsSlots : Held → ℕ → List Bool → Type 0
OwnsSlots h n slots = (k : ℕ) → has_slot slots k ≡ true → OwnsSlot h n k

-- each number that a memory keeps is a byte
abbrev pub HasBytes : Memory → Type 0
HasBytes m = (a : ℕ) → byte_at m a < 256

-- no slot has more pages of content than it can have
abbrev pub AreFew : List ℕ → Type 0
AreFew whole = (k : ℕ) → get_or whole k 0 < slot_pages

-- of each of these slots the memory owns the content, but for so many pages at its start
abbrev pub OwnsParts : Held → List Bool → List ℕ → Type 0
OwnsParts h slots whole = (k : ℕ) → has_slot slots k ≡ true → (page : ℕ) → slot_page k + 1 + get_or whole k 0 ≤ page → page < slot_page k + slot_pages → Owns h page

-- those pages of each slot have the bytes that they had
abbrev pub KeepsSpared : List ℕ → Memory → Memory → Type 0
KeepsSpared whole before after = (k i : ℕ) → i < spared_in whole k → file_bytes after (slot_start k + content_offset + i) ≡ file_bytes before (slot_start k + content_offset + i)

-- an address that is in no slot
abbrev pub IsElsewhere : ℕ → Type 0
IsElsewhere a = (a < first_address) ⊎ (first_address + all_slots_size ≤ a)

-- all but the bytes of slots stays, also which pages are owned and dirty
pub record KeepsRest (before after : Held) : Type 0 where
  pub permissions : after.memory.permissions ≡ before.memory.permissions
  pub elsewhere : (a : ℕ) → IsElsewhere a → byte_at after.memory a ≡ byte_at before.memory a
  pub kept : (page : ℕ) → KeepsMarks before after page
  pub marks : Marks before after

-- what a write to slots leaves as it is, with which of them are ready
pub record KeepsSlots (before after : Held) (r s h i : List Bool) (v w : List ℕ) : Type 0 where
  pub rest : KeepsRest before after
  pub ready : s ≡ r
  pub headers : i ≡ h
  pub whole : w ≡ v
  pub spared : KeepsSpared v before.memory after.memory

-- a page that is none of n pages from the start of slot k on
abbrev pub IsBesideSlot : ℕ → ℕ → ℕ → Type 0
IsBesideSlot n k page = IsOutside (slot_page k) (slot_page k + n) page

-- nor of those of each slot that bits tell
abbrev pub IsBesideBits : ℕ → ℕ → ℕ → Type 0
IsBesideBits n bits page = (k : ℕ) → k < slot_count → bits / 2 ^ k % 2 ≡ 1 → IsBesideSlot n k page

-- slots with those that bits tell, the lowest for slot 0
abbrev pub HasBits : ℕ → List Bool → Type 0
HasBits bits slots = (k : ℕ) → k < slot_count → bits / 2 ^ k % 2 ≡ 1 → has_slot slots k ≡ true
