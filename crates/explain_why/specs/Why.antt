-- Why spaces of a settled tree stopped as they did: those in conflict, those that another trap has stopped, and those with a file in conflict.
-- Our choice: what is told of each.
use Rattle.std.specs.Prelude.{◌≡◌, ◌⊎◌, ℕ, ◌+◌, ◌-◌, ◌^◌, List, [], ◌∷◌, ◌++◌, Option, Some, None, codes, slice_index, option_and_then, if◌then◌else◌}
use Rattle.memory_model.specs.Memory.{Memory, byte_at}
use Rattle.instruction_model.specs.declared.Instruction.{Instruction}
use Rattle.instruction_model.specs.declared.Instruction.TheVariants.{Load, Store}
use Rattle.file_model.specs.Sizes.{first_address, slot_count}
use Rattle.file_model.specs.Slots.{flags_offset, slot_at, slot_start}
use Rattle.space_model.specs.declared.Cause.TheVariants.{LoadMisaligned, LoadFault, StoreMisaligned, StoreFault, Conflict, Limit, Fuel, Ret, Fresh}
use Rattle.space_model.specs.declared.Status.{Status}
use Rattle.space_model.specs.declared.Status.TheVariants.{Running, Stopped}
use Rattle.space_model.specs.Files.{file_bytes}
use Rattle.space_model.specs.Space.{Space, Top}
use Rattle.run_model.specs.Demand.{settle_tree}
use Rattle.det_laws.specs.Tops.{top_at}
use Rattle.explain_core.specs.declared.watching.Watched.TheVariants.{Byte, Register}
use Rattle.explain_core.specs.Instructions.{instruction_at_pc}
use Rattle.explain_core.specs.Joins.{child_path}
use Rattle.explain_core.specs.Reached.{HasSoMany, IsTrace}
use Rattle.explain_why.specs.declared.telling.Ending.{Ending}
use Rattle.explain_why.specs.declared.telling.Ending.TheVariants.{Quiet, Conflicting, Trapped}
use Rattle.explain_why.specs.Origin.{TellsOrigin}
use Rattle.explain_why.specs.Parts.{HasParts, numbers_below, paths_from}
use Rattle.explain_why.specs.Texts.{bytes_text, conflict_text, file_text, lone_conflict_text, register_word, trap_text}

-- all own events, as far as a number of 64 bits can count them
abbrev pub all_events : ℕ
all_events = 2 ^ 64 - 1

-- ---- a conflict of a merge

-- of a space at p and the child at q that it joined, with the child's snapshot: the bytes at the address, and who changed the child's and the parent's
pub record TellsConflict (root : Space) (p q : List ℕ) (parent child : Top) (snapshot : Memory) (address : ℕ) (text : List ℕ) : Type 0 where
  pub child_side : List ℕ
  pub parent_side : List ℕ
  pub child_origin : TellsOrigin root (Byte address) q all_events (byte_at child.memory address) (codes "child changed by") child_side
  pub parent_origin : TellsOrigin root (Byte address) p all_events (byte_at parent.memory address) (codes "parent changed by") parent_side
  pub lines : let r = parent.registers in text ≡ conflict_text p (slice_index r.x 17) q address
      ++ (bytes_text (byte_at snapshot address) (byte_at child.memory address) (byte_at parent.memory address) ++ (child_side ++ parent_side))

-- at a path of the tree stands a space with this top, which has this snapshot
abbrev pub StandsAt : Space → List ℕ → Top → Memory → Type 0
StandsAt end q child snapshot = (top_at q end ≡ Some child) × (child.snapshot ≡ Some snapshot)

-- a1 names a child at q that stands in the tree and has a snapshot
abbrev pub IsJoined : Space → List ℕ → Top → List ℕ → Top → Memory → Type 0
IsJoined end p parent q child snapshot = let r = parent.registers in (child_path p (slice_index r.x 11) ≡ Some q) × StandsAt end q child snapshot

abbrev pub ExplainsConflict : Space → Space → List ℕ → Top → ℕ → List ℕ → Type 0
ExplainsConflict root end p parent address text =
    ((q : List ℕ) × (child : Top) × (snapshot : Memory) × IsJoined end p parent q child snapshot × TellsConflict root p q parent child snapshot address text)
    ⊎ (((q : List ℕ) (child : Top) (snapshot : Memory) → IsJoined end p parent q child snapshot → ⊥) × (text ≡ lone_conflict_text p address))

-- ---- another trap

-- the register from which an instruction makes the address of a load or a store
abbrev pub base_register : Option Instruction → Option ℕ
base_register (Some (Load k r a n)) = Some a
base_register (Some (Store width a b n)) = Some a
base_register other = None

-- of a space that a load or a store has stopped: that register
abbrev pub address_register : Status → Option Instruction → Option ℕ
address_register (Stopped LoadMisaligned value) i = base_register i
address_register (Stopped LoadFault value) i = base_register i
address_register (Stopped StoreMisaligned value) i = base_register i
address_register (Stopped StoreFault value) i = base_register i
address_register other i = None

abbrev pub TellsRegister : Space → List ℕ → Top → Option ℕ → List ℕ → Type 0
TellsRegister root p t None text = text ≡ []
TellsRegister root p t (Some r) text = let x = t.registers in TellsOrigin root (Register r) p all_events (slice_index x.x r) (register_word r) text

-- the last two own events, so the trap and the one before it, and who changed the register of the address
pub record TellsTrap (root : Space) (p : List ℕ) (t : Top) (text : List ℕ) : Type 0 where
  pub count : ℕ
  pub all : HasSoMany root p count
  pub events : List ℕ
  pub last_two : IsTrace root p (count - 1) count events
  pub source : List ℕ
  pub register : TellsRegister root p t (address_register t.status (instruction_at_pc t)) source
  pub lines : text ≡ trap_text p t.status ++ (events ++ source)

-- what is to be told of a status: nothing, a conflict at an address, or another trap
unfoldable pub ending_of : Status → Ending
ending_of Running = Quiet
ending_of (Stopped Limit value) = Quiet
ending_of (Stopped Fuel value) = Quiet
ending_of (Stopped Ret value) = Quiet
ending_of (Stopped Fresh value) = Quiet
ending_of (Stopped Conflict address) = Conflicting address
ending_of (Stopped cause value) = Trapped

abbrev pub ExplainsStop : Space → Space → List ℕ → Top → Ending → List ℕ → Type 0
ExplainsStop root end p t Quiet text = text ≡ []
ExplainsStop root end p t (Conflicting address) text = ExplainsConflict root end p t address text
ExplainsStop root end p t Trapped text = TellsTrap root p t text

-- ---- files in conflict

-- the name of the file in a slot, where it is in conflict
abbrev pub conflicted_name : (ℕ → ℕ) → ℕ → Option (List ℕ)
conflicted_name bytes k = option_and_then (λ f. if f.conflicted then Some f.name else None) (slot_at bytes k)

-- where the flags of a slot stand in a memory
abbrev pub flags_address : ℕ → ℕ
flags_address k = first_address + (slot_start k + flags_offset)

abbrev pub ExplainsFile : Space → List ℕ → Memory → ℕ → Option (List ℕ) → List ℕ → Type 0
ExplainsFile root p m k None text = text ≡ []
ExplainsFile root p m k (Some name) text =
    (side : List ℕ) × TellsOrigin root (Byte (flags_address k)) p all_events (byte_at m (flags_address k)) (codes "flags changed by") side × (text ≡ file_text p k name ++ side)

abbrev pub ExplainsSlot : Space → List ℕ → Memory → ℕ → List ℕ → Type 0
ExplainsSlot root p m k text = ExplainsFile root p m k (conflicted_name (file_bytes m) k) text

-- ---- all spaces

abbrev pub ExplainsTop : Space → Space → List ℕ → Option Top → List ℕ → Type 0
ExplainsTop root end p None text = text ≡ []
ExplainsTop root end p (Some t) text =
    (stop : List ℕ) × (files : List ℕ) × ExplainsStop root end p t (ending_of t.status) stop × HasParts (ExplainsSlot root p t.memory) (numbers_below slot_count) files × (text ≡ stop ++ files)

-- of the space at a path of the settled tree
unfoldable pub ExplainsSpace : Space → Space → List ℕ → List ℕ → Type 0
ExplainsSpace root end p text = ExplainsTop root end p (top_at p end) text

-- where there is nothing to tell of, it says so
abbrev pub said : List ℕ → List ℕ
said [] = codes "nothing to explain\n"
said (c ∷ text) = c ∷ text

-- a text tells of each space of the settled tree, in the order of paths
abbrev pub IsWhy : Space → List ℕ → Type 0
IsWhy root text = (told : List ℕ) × HasParts (ExplainsSpace root (settle_tree root)) (paths_from [] (settle_tree root)) told × (text ≡ said told)
