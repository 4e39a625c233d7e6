-- The parts of what calls do, each from tops to tops, and the options that ask for them (OSDI 2010, "Efficient System-Enforced Deterministic
-- Parallelism", the section on the kernel interface: the options of Put and Get). A range of memory is its first page and its number of pages,
-- so that all of memory is one.
-- Source: OSDI 2010, "Efficient System-Enforced Deterministic Parallelism", the kernel interface: the options of Put and Get.
-- Our choice: what each does, their order, that Copy carries permissions, and that the snapshot stays when Merge has used it.
use Rattle.std.specs.Prelude.{ℕ, ◌/◌, List, [], ◌∷◌, Option, Some, None, Bool, if◌then◌else◌}
use Rattle.memory_model.specs.Memory.{Memory, with_permissions}
use Rattle.memory_model.specs.Sizes.{page_size}
use Rattle.memory_model.specs.Ranges.{with_zeros, with_copies}
use Rattle.merge_model.specs.Merge.{with_merge}
use Rattle.instruction_model.specs.Outcome.{Registers}
use Rattle.call_model.specs.declared.Transfer.{Transfer}
use Rattle.call_model.specs.Options.{has, regs, copy, zeroing, merging, perm, snap, start, limit_option, permission}
use Rattle.space_model.specs.declared.Status.TheVariants.{Running}
use Rattle.space_model.specs.Space.{Top}
use Rattle.space_model.specs.Block.{registers_at, with_block}

abbrev pub Part : Type 0
Part = Top → Top

-- these registers
abbrev pub registers_part : Registers → Part
registers_part r t = record t { registers = r }

-- bytes 0; permissions stay
abbrev pub zero_part : ℕ → ℕ → Part
zero_part first count t = record t { memory = with_zeros t.memory first count }

-- bytes and permissions of a source's pages from a page on
abbrev pub copy_part : Memory → ℕ → ℕ → ℕ → Part
copy_part source from first count t = record t { memory = with_copies t.memory source from first count }

-- a parent's memory with what a child has changed in a range since its snapshot, where it has one
abbrev pub with_changes : Option Memory → Memory → Memory → ℕ → ℕ → Memory
with_changes None child parent first count = parent
with_changes (Some snapshot) child parent first count = with_merge snapshot child parent first count

-- what a child has changed since its snapshot; permissions stay
abbrev pub merge_part : Option Memory → Memory → ℕ → ℕ → Part
merge_part snapshot child first count t = record t { memory = with_changes snapshot child t.memory first count }

-- this permission; bytes stay
abbrev pub permission_part : ℕ → ℕ → ℕ → Part
permission_part first count p t = record t { memory = with_permissions t.memory first count p }

-- the register block of a top from an address on, whatever the permissions are
abbrev pub block_part : ℕ → Top → Part
block_part a c t = record t { memory = with_block t.memory a c }

-- its memory as it is now, kept to merge against
abbrev pub snapshot_part : Part
snapshot_part t = record t { snapshot = Some t.memory }

-- it runs, with this limit
abbrev pub start_part : Option ℕ → Part
start_part limit t = record t { status = Running; limit = limit }

-- a part where it is asked for, else nothing
abbrev pub part_if : Bool → Part → Part
part_if asked part t = if asked then part t else t

-- the parts whose option is among these, one after the other
abbrev pub with_parts : ℕ → List (ℕ × Part) → Part
with_parts options [] t = t
with_parts options (p ∷ ps) t = with_parts options ps (part_if (has p.0 options) p.1 t)

abbrev pub source_page : Transfer → ℕ
source_page x = x.source / page_size

abbrev pub destination_page : Transfer → ℕ
destination_page x = x.destination / page_size

abbrev pub page_count : Transfer → ℕ
page_count x = x.size / page_size

-- with Limit, the limit of a child that is started
abbrev pub start_limit : Transfer → Option ℕ
start_limit x = if has limit_option x.options then Some x.limit else None

-- what Put does to the child of a caller, each part with its option
abbrev pub put_parts : Transfer → Top → List (ℕ × Part)
put_parts x t =
    (regs, registers_part (registers_at t.memory x.block))
    ∷ (zeroing, zero_part (destination_page x) (page_count x))
    ∷ (copy, copy_part t.memory (source_page x) (destination_page x) (page_count x))
    ∷ (perm, permission_part (destination_page x) (page_count x) (permission x.options))
    ∷ (snap, snapshot_part)
    ∷ (start, start_part (start_limit x))
    ∷ []

-- what Get of a child does to its caller
abbrev pub get_parts : Transfer → Top → List (ℕ × Part)
get_parts x c =
    (zeroing, zero_part (destination_page x) (page_count x))
    ∷ (copy, copy_part c.memory (source_page x) (destination_page x) (page_count x))
    ∷ (merging, merge_part c.snapshot c.memory (destination_page x) (page_count x))
    ∷ (perm, permission_part (destination_page x) (page_count x) (permission x.options))
    ∷ (regs, block_part x.block c)
    ∷ []

-- the child after a Put of this caller
unfoldable pub child_after : Transfer → Top → Part
child_after x t c = with_parts x.options (put_parts x t) c

-- the caller after a Get of this child
unfoldable pub caller_after : Transfer → Top → Part
caller_after x c t = with_parts x.options (get_parts x c) t
