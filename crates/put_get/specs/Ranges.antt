-- What Put and Get change of a memory, from their options; and when a snapshot comes behind a change.
-- Our choice: a restatement for proofs.
use Rattle.std.specs.Prelude.{◌≡◌, ℕ, ◌+◌, ◌/◌, ◌<◌, List, [], ◌∷◌, Bool, true, false, ◌&&◌, ◌||◌, ◌⊎◌, Option, if◌then◌else◌}
use Rattle.memory_model.specs.Memory.{Memory, with_bytes, with_permissions}
use Rattle.memory_model.specs.Ranges.{with_copies, with_zeros}
use Rattle.memory_model.specs.Sizes.{page_size}
use Rattle.call_model.specs.Limits.{block_size}
use Rattle.call_model.specs.declared.Transfer.{Transfer}
use Rattle.call_model.specs.Options.{has, regs, copy, zeroing, merging, perm, snap, permission}
use Rattle.space_model.specs.Part.{Part, zero_part, copy_part, permission_part, snapshot_part, with_changes, destination_page, source_page, page_count}
use Rattle.space_mem.specs.Held.{Held, IsOutside, Owns}

-- each change of a memory, where it is asked for: Zero,
abbrev pub zeroed : Transfer → Memory → Memory
zeroed x m = if has zeroing x.options then with_zeros m (destination_page x) (page_count x) else m

-- Copy, from a source,
abbrev pub copied : Transfer → Memory → Memory → Memory
copied x source m = if has copy x.options then with_copies m source (source_page x) (destination_page x) (page_count x) else m

-- Merge, of a child that has a snapshot,
abbrev pub merged : Transfer → Option Memory → Memory → Memory → Memory
merged x snapshot child m = if has merging x.options then with_changes snapshot child m (destination_page x) (page_count x) else m

-- Perm,
abbrev pub permitted : Transfer → Memory → Memory
permitted x m = if has perm x.options then with_permissions m (destination_page x) (page_count x) (permission x.options) else m

-- and Regs of Get, by the bytes of a register block
abbrev pub told : Transfer → List ℕ → Memory → Memory
told x block m = if has regs x.options then with_bytes m x.block block else m

-- Zero, Copy from a source, and Perm
abbrev pub ranged : Transfer → Memory → Memory → Memory
ranged x source m = permitted x (copied x source (zeroed x m))

-- a page that these leave owned and dirty as it was: one beside the range, and each where neither Zero nor Copy is asked for
abbrev pub IsLeft : Transfer → ℕ → Type 0
IsLeft x page = IsOutside (destination_page x) (destination_page x + page_count x) page ⊎ ((has zeroing x.options || has copy x.options) ≡ false)

-- Zero and Copy, from a source, and Perm
abbrev pub range_parts : Transfer → Memory → List (ℕ × Part)
range_parts x source =
    (zeroing, zero_part (destination_page x) (page_count x))
    ∷ (copy, copy_part source (source_page x) (destination_page x) (page_count x))
    ∷ (perm, permission_part (destination_page x) (page_count x) (permission x.options))
    ∷ []

-- what Put changes of a child's memory, and the snapshot that it takes
abbrev pub memory_parts : Transfer → Memory → List (ℕ × Part)
memory_parts x source =
    (zeroing, zero_part (destination_page x) (page_count x))
    ∷ (copy, copy_part source (source_page x) (destination_page x) (page_count x))
    ∷ (perm, permission_part (destination_page x) (page_count x) (permission x.options))
    ∷ (snap, snapshot_part)
    ∷ []

-- a snapshot is asked for behind a change of memory
abbrev pub snaps_changed : ℕ → Bool
snaps_changed options = has snap options && (has zeroing options || (has copy options || has perm options))

-- the pages of the register block are owned, where it is to be written
abbrev pub OwnsBlock : Transfer → Held → Type 0
OwnsBlock x h = has regs x.options ≡ true → (k : ℕ) → k < block_size → Owns h ((x.block + k) / page_size)
