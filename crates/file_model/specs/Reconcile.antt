-- Reconciling: what a parent takes over from the files of a child that it waited for, and the base that a forked child begins with.
-- Source: OSDI 2010, "Efficient System-Enforced Deterministic Parallelism", the section on file system consistency: a file that the
-- child alone changed is taken over, and one that both changed is in conflict, unless both only added to it.
-- Our choice: that a new file takes the lowest free slot, and that a file for which there is none is left out and counted.
use Rattle.std.specs.Prelude.{ℕ, ◌+◌, ◌*◌, ◌==◌, ◌&&◌, Bool, true, false, not, if◌then◌else◌, cond, List, [], ◌∷◌, ◌++◌, length, drop, replicate, slice_set, Option, Some, None, nat_le}
use Rattle.file_model.specs.Sizes.{slot_count, greatest_length}
use Rattle.file_model.specs.File.{File, next_version, with_base}
use Rattle.file_model.specs.Slots.{slots_of, with_slot}
use Rattle.file_model.specs.Operations.{Entry, entry_of, lowest_free}

-- ---- the files that are reconciled

-- whether an entry is of slot k
abbrev pub is_at : ℕ → Option Entry → Bool
is_at k None = false
is_at k (Some e) = e.slot == k

-- of these slots from k on the files that are not hidden: no lower slot in use has their name
unfoldable pub shown_from : List (Option File) → ℕ → List (Option File) → List File
shown_from all k [] = []
shown_from all k (None ∷ slots) = shown_from all (k + 1) slots
shown_from all k (Some f ∷ slots) = if is_at k (entry_of all f.name) then f ∷ shown_from all (k + 1) slots else shown_from all (k + 1) slots

abbrev pub shown_files : List (Option File) → List File
shown_files slots = shown_from slots 0 slots

-- ---- one file

-- what becomes of a child's file: nothing, a slot of the parent has a new file, or it is left out
pub data Outcome : Type 0 where
  stays : Outcome
  writes : Entry → Outcome
  leaves_out : Outcome

-- the child's file, with the base that the parent's has
abbrev pub child_file : File → ℕ → ℕ → File
child_file c base length = record c { base = base; length_at_base = length }

-- a file that the parent lacks
abbrev pub arrival : File → Option ℕ → Outcome
arrival c None = leaves_out
arrival c (Some k) = writes (record { slot = k; file = child_file c 0 0 })

-- both only added: to the parent's content comes what the child added since its base
abbrev pub joint_content : File → File → List ℕ
joint_content c p = p.content ++ drop c.length_at_base c.content

-- whether a file may only have been added to since it had this length
abbrev pub only_grew : ℕ → File → Bool
only_grew base f = f.append && not f.conflicted && not f.deleted && nat_le base (length f.content)

abbrev pub are_joinable : File → File → Bool
are_joinable c p = only_grew c.length_at_base c && only_grew c.length_at_base p && nat_le (length (joint_content c p)) greatest_length

abbrev pub with_addition : File → File → File
with_addition c p = record p { version = next_version p; content = joint_content c p }

-- its content and whether it only grows stay
abbrev pub with_conflict : File → File
with_conflict p = record p { version = next_version p; conflicted = true; deleted = false }

-- the parent's file after both changed it
abbrev pub after_both : File → File → File
after_both c p = if are_joinable c p then with_addition c p else with_conflict p

-- the parent's file, where the child changed its own
abbrev pub after_child : File → File → File
after_child c p = if p.version == c.base then child_file c p.base p.length_at_base else after_both c p

abbrev pub against : File → Option Entry → List (Option File) → Outcome
against c None parent = arrival c (lowest_free parent)
against c (Some e) parent = writes (record e { file = after_child c e.file })

abbrev pub reconcile_file : File → List (Option File) → Outcome
reconcile_file c parent = if c.version == c.base then stays else against c (entry_of parent c.name) parent

-- ---- all of them

-- the parent's slots, which of them were written, with what, and how many files were left out
pub record Reconciliation : Type 0 where
  pub slots : List (Option File)
  pub edits : List Entry
  pub left_out : ℕ

abbrev pub after_outcome : Reconciliation → Outcome → Reconciliation
after_outcome r stays = r
after_outcome r (writes e) = record r { slots = slice_set r.slots e.slot (Some e.file); edits = r.edits ++ e ∷ [] }
after_outcome r leaves_out = record r { left_out = r.left_out + 1 }

-- one child's file after the other
unfoldable pub reconcile_files : Reconciliation → List File → Reconciliation
reconcile_files r [] = r
reconcile_files r (c ∷ cs) = reconcile_files (after_outcome r (reconcile_file c r.slots)) cs

abbrev pub reconcile : List (Option File) → List (Option File) → Reconciliation
reconcile parent child = reconcile_files (record { slots = parent; edits = []; left_out = 0 }) (shown_files child)

-- ---- on bytes

-- slots with these files, in order
unfoldable pub with_entries : (ℕ → ℕ) → List Entry → ℕ → ℕ
with_entries bytes [] = bytes
with_entries bytes (e ∷ es) = with_entries (with_slot bytes e.slot e.file) es

-- the parent's bytes after reconciling
abbrev pub reconciled_bytes : (ℕ → ℕ) → (ℕ → ℕ) → ℕ → ℕ
reconciled_bytes parent child = with_entries parent (reconcile (slots_of parent) (slots_of child)).edits

-- of these slots the ones that entries write, too
unfoldable pub mark_entries : List Bool → List Entry → List Bool
mark_entries marks [] = marks
mark_entries marks (e ∷ es) = mark_entries (slice_set marks e.slot true) es

-- whether each slot is written
abbrev pub marks_of : List Entry → List Bool
marks_of es = mark_entries (replicate slot_count false) es

-- one bit for each, the first the lowest
unfoldable pub bits_of : List Bool → ℕ
bits_of [] = 0
bits_of (b ∷ bs) = cond b 1 0 + 2 * bits_of bs

-- whether a slot is in use
abbrev pub is_used : Option File → Bool
is_used None = false
is_used (Some f) = true

-- ---- the base of a forked child

-- of these slots from k on each that is in use, with its base
unfoldable pub base_entries : ℕ → List (Option File) → List Entry
base_entries k [] = []
base_entries k (None ∷ slots) = base_entries (k + 1) slots
base_entries k (Some f ∷ slots) = record { slot = k; file = with_base f } ∷ base_entries (k + 1) slots

-- a child's bytes with the base in each slot in use, hidden ones too
abbrev pub with_bases : (ℕ → ℕ) → ℕ → ℕ
with_bases bytes = with_entries bytes (base_entries 0 (slots_of bytes))
