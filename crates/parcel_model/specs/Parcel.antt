-- A parcel: a top without devices, as the bytes by which a space without its children travels from one node to another. The node that it
-- comes to has a list of resident pages, and a page that is among these travels as its number (OSDI 2010, "Efficient System-Enforced
-- Deterministic Parallelism", the section on distribution: a space migrates with the pages that its new node lacks).
-- Source: OSDI 2010, "Efficient System-Enforced Deterministic Parallelism", "Distribution via Space Migration".
-- Our choice: the format.
use Rattle.std.specs.Prelude.{◌≡◌, ℕ, ◌+◌, ◌*◌, ◌^◌, ◌≤◌, ◌<◌, ◌==◌, ◌||◌, Bool, true, false, if◌then◌else◌, List, [], ◌∷◌, ◌++◌, length, get_or, slice_index, Option, Some, None, codes}
use Rattle.std.specs.Int.{w32, to_le_bytes}
use Rattle.std.specs.List.{flat_map, list_all}
use Rattle.memory_model.specs.Sizes.{page_size, pages, greatest_permission}
use Rattle.memory_model.specs.Memory.{Memory, no_memory, with_permission}
use Rattle.memory_model.specs.Ranges.{with_page}
use Rattle.call_model.specs.declared.Block.{Block}
use Rattle.call_model.specs.Block.{words}
use Rattle.space_model.specs.declared.Status.{Status}
use Rattle.space_model.specs.declared.Status.TheVariants.{Running, Stopped}
use Rattle.space_model.specs.Stop.{cause_number, cause_of}
use Rattle.space_model.specs.Space.{Top}

-- how the bytes of a page travel
pub data Content : Type 0 where
  -- all of them are 0
  empty : Content
  -- they are those of the resident page of this number
  resident : ℕ → Content
  -- they stand there
  whole : List ℕ → Content

-- a page that has a permission, or a byte other than 0
pub record Entry : Type 0 where
  pub page : ℕ
  pub permission : ℕ
  pub content : Content

-- what travels: registers with cause and value, limit, fuel, used, the pages of the memory and, where there is one, of the snapshot
pub record Parcel : Type 0 where
  pub block : Block
  pub limit : Option ℕ
  pub fuel : ℕ
  pub used : ℕ
  pub memory : List Entry
  pub snapshot : Option (List Entry)

-- ---- what a parcel means, over a list of resident pages

-- the bytes of the resident page of a number; past the list there are none
abbrev pub page_in : List (List ℕ) → ℕ → List ℕ
page_in known number = get_or known number []

-- with these bytes of a page; an empty page has none to put, and a memory has 0 where nothing was put
unfoldable pub with_content : List (List ℕ) → Memory → ℕ → Content → Memory
with_content known m page empty = m
with_content known m page (resident number) = with_page m page (page_in known number)
with_content known m page (whole bytes) = with_page m page bytes

-- with this page
abbrev pub with_entry : List (List ℕ) → Memory → Entry → Memory
with_entry known m e = with_permission (with_content known m e.page e.content) e.page e.permission

-- with each of these pages
abbrev pub with_entries : List (List ℕ) → Memory → List Entry → Memory
with_entries known m [] = m
with_entries known m (e ∷ es) = with_entries known (with_entry known m e) es

-- a memory of these pages
abbrev pub memory_of : List (List ℕ) → List Entry → Memory
memory_of known es = with_entries known no_memory es

abbrev pub snapshot_of : List (List ℕ) → Option (List Entry) → Option Memory
snapshot_of known None = None
snapshot_of known (Some es) = Some (memory_of known es)

-- number 22 stands for no cause, of a space that runs
abbrev pub status_in : ℕ → ℕ → Status
status_in cause value = if cause == 22 then Running else Stopped (cause_of cause) value

abbrev pub top_in : List (List ℕ) → Parcel → Top
top_in known p = record {
  registers = record { pc = p.block.pc; x = 0 ∷ p.block.x };
  memory = memory_of known p.memory;
  snapshot = snapshot_of known p.snapshot;
  limit = p.limit;
  fuel = p.fuel;
  used = p.used;
  status = status_in p.block.cause p.block.value;
  devices = None;
}

-- ---- spellings, numbers of four bytes with the least byte first

abbrev pub mark : List ℕ
mark = codes "DTP2"

-- the register block, word by word
abbrev pub block_spelling : Block → List ℕ
block_spelling b = flat_map (to_le_bytes w32) (words b)

-- form and content
abbrev pub content_spelling : Content → List ℕ
content_spelling empty = 0 ∷ []
content_spelling (resident number) = 1 ∷ to_le_bytes w32 number
content_spelling (whole bytes) = 2 ∷ bytes

-- page, permission, form and content
abbrev pub entry_spelling : Entry → List ℕ
entry_spelling e = to_le_bytes w32 e.page ++ e.permission ∷ content_spelling e.content

-- the count, and each page
abbrev pub memory_spelling : List Entry → List ℕ
memory_spelling es = to_le_bytes w32 (length es) ++ flat_map entry_spelling es

abbrev pub snapshot_spelling : Option (List Entry) → List ℕ
snapshot_spelling None = []
snapshot_spelling (Some es) = memory_spelling es

abbrev pub is_there : {A : Type 0} → Option A → ℕ
is_there None = 0
is_there (Some x) = 1

-- 1 for a snapshot, 2 for a limit
abbrev pub flags_of : Parcel → ℕ
flags_of p = is_there p.snapshot + 2 * is_there p.limit

-- the limit; 0 where there is none
abbrev pub limit_number : Option ℕ → ℕ
limit_number None = 0
limit_number (Some n) = n

-- the mark, the register block, flags, limit, fuel, used, the memory, and the snapshot where there is one
abbrev pub spelling : Parcel → List ℕ
spelling p = mark ++ (block_spelling p.block ++ (flags_of p ∷ (to_le_bytes w32 (limit_number p.limit) ++ (to_le_bytes w32 p.fuel ++ (to_le_bytes w32 p.used ++ (memory_spelling p.memory ++ snapshot_spelling p.snapshot))))))

-- ---- what has a spelling

-- all of the bytes are 0
abbrev pub is_zero : List ℕ → Bool
is_zero bytes = list_all (λ b. b == 0) bytes

-- a page without bytes has a permission, a resident one is there with a byte other than 0, and a whole one has 4,096 bytes, not all 0
abbrev pub IsContent : List (List ℕ) → ℕ → Content → Type 0
IsContent known permission empty = permission ≡ 0 → ⊥
IsContent known permission (resident number) = (number < 2 ^ 32) × (is_zero (page_in known number) ≡ false)
IsContent known permission (whole bytes) = (length bytes ≡ page_size) × (is_zero bytes ≡ false)

-- this page or one above it
pub record IsEntry (known : List (List ℕ)) (least : ℕ) (e : Entry) : Type 0 where
  pub order : least ≤ e.page
  pub page : e.page < pages
  pub permission : e.permission ≤ greatest_permission
  pub content : IsContent known e.permission e.content

-- by rising page
abbrev pub AreEntries : List (List ℕ) → ℕ → List Entry → Type 0
AreEntries known least [] = Unit {0}
AreEntries known least (e ∷ es) = IsEntry known least e × AreEntries known (e.page + 1) es

abbrev pub IsSnapshot : List (List ℕ) → Option (List Entry) → Type 0
IsSnapshot known None = Unit {0}
IsSnapshot known (Some es) = AreEntries known 0 es

-- the number of a cause, or 22
abbrev pub is_stop : ℕ → Bool
is_stop n = n == 22 || cause_number (cause_of n) == n

-- 34 words, of which the last but one tells why the space has stopped, or that it runs and has no value
pub record IsBlock (b : Block) : Type 0 where
  pub registers : length b.x ≡ 31
  pub words : (k : ℕ) → slice_index (words b) k < 2 ^ 32
  pub stop : is_stop b.cause ≡ true
  pub runs : b.cause ≡ 22 → b.value ≡ 0

pub record IsParcel (known : List (List ℕ)) (p : Parcel) : Type 0 where
  pub block : IsBlock p.block
  pub limit : limit_number p.limit < 2 ^ 32
  pub fuel : p.fuel + p.used < 2 ^ 32
  pub some : 1 ≤ p.fuel + p.used
  pub memory : AreEntries known 0 p.memory
  pub snapshot : IsSnapshot known p.snapshot

-- ---- the grammar

-- the bytes are the spelling of the parcel
pub record ParcelOf (known : List (List ℕ)) (bytes : List ℕ) (p : Parcel) : Type 0 where
  pub sound : IsParcel known p
  pub spelled : bytes ≡ spelling p

-- the bytes are the spelling of a parcel of this top
pub record TopOf (known : List (List ℕ)) (bytes : List ℕ) (t : Top) : Type 0 where
  pub parcel : Parcel
  pub spelled : ParcelOf known bytes parcel
  pub means : t ≡ top_in known parcel
