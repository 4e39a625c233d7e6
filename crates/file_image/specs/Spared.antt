-- Bytes at the start of a slot's content that are not written where a file is taken over, since the slot has them already; and from which slot of
-- the child it gets them.
-- Our choice: a restatement for proofs.
use Rattle.std.specs.Prelude.{◌≡◌, ℕ, ◌+◌, ◌*◌, ◌/◌, ◌%◌, ◌<◌, ◌≤◌, ◌==◌, ◌⊎◌, Bool, true, false, ⊤, List, [], ◌∷◌, length, slice_index, slice_set, Option, Some, None}
use Rattle.file_model.specs.File.{File}
use Rattle.file_model.specs.Sizes.{slot_size, content_offset, greatest_length}
use Rattle.file_model.specs.Slots.{slot_start}
use Rattle.file_model.specs.Operations.{Entry, entry_of}
use Rattle.file_model.specs.Reconcile.{Outcome, stays, writes, leaves_out, reconcile_file}

-- the bytes of slot k's content
abbrev pub content_in : (ℕ → ℕ) → ℕ → ℕ → ℕ
content_in bytes k i = bytes (slot_start k + content_offset + i)

-- how many bytes so many pages have at the start of slot k's content
abbrev pub spared_in : List ℕ → ℕ → ℕ
spared_in whole k = content_offset * slice_index whole k

-- the bytes of the child's content from which slot k's are taken
abbrev pub content_from : (ℕ → ℕ) → List ℕ → ℕ → ℕ → ℕ
content_from bytes from k i = content_in bytes (slice_index from k) i

-- whether a child's file is taken over as it is, by the parent's file of its name: there is none, or the child alone has changed it
abbrev pub is_taken : File → Option Entry → Bool
is_taken c None = true
is_taken c (Some e) = e.file.version == c.base

-- so many bytes are the first ones of a content
pub record HasFirst (first : ℕ → ℕ) (n : ℕ) (content : List ℕ) : Type 0 where
  pub few : n ≤ length content
  pub same : (i : ℕ) → i < n → first i ≡ slice_index content i

-- so many bytes of the slot that changes need not be written: none, unless a content is taken over, and then those with which it begins
abbrev pub IsSparedFor : Outcome → Bool → (ℕ → ℕ → ℕ) → (ℕ → ℕ) → List ℕ → Type 0
IsSparedFor stays taken first spared content = ⊤
IsSparedFor (writes e) true first spared content = HasFirst (first e.slot) (spared e.slot) content
IsSparedFor (writes e) false first spared content = spared e.slot ≡ 0
IsSparedFor leaves_out taken first spared content = ⊤

-- the parent's slots after one file
abbrev pub slots_after : List (Option File) → Outcome → List (Option File)
slots_after slots stays = slots
slots_after slots (writes e) = slice_set slots e.slot (Some e.file)
slots_after slots leaves_out = slots

-- what is so of each file, and of the parent's slots as they are when its turn comes
unfoldable pub AtEachTurn : (List (Option File) → File → Type 0) → List (Option File) → List File → Type 0
AtEachTurn so slots [] = ⊤
AtEachTurn so slots (c ∷ cs) = so slots c × AtEachTurn so (slots_after slots (reconcile_file c slots)) cs

-- so many bytes of the slot that a file changes in its turn need not be written
abbrev pub IsSparedTurn : (ℕ → ℕ → ℕ) → (ℕ → ℕ) → List (Option File) → File → Type 0
IsSparedTurn first spared slots c = IsSparedFor (reconcile_file c slots) (is_taken c (entry_of slots c.name)) first spared c.content

-- numbers with another one of a slot, if any
abbrev pub with_number : List ℕ → Option ℕ → ℕ → List ℕ
with_number numbers None n = numbers
with_number numbers (Some k) n = slice_set numbers k n

-- an offset is of the content of a slot, among so many bytes at its start
pub record IsSparedAt (spared : ℕ → ℕ) (a : ℕ) : Type 0 where
  pub from : content_offset ≤ a % slot_size
  pub before : a % slot_size < content_offset + spared (a / slot_size)

-- bytes that are the same but for so many at the start of the content of each slot, which are these
pub record HasTaken (spared : ℕ → ℕ) (first : ℕ → ℕ → ℕ) (before after : ℕ → ℕ) : Type 0 where
  pub few : (k : ℕ) → spared k ≤ greatest_length
  pub same : (a : ℕ) → (after a ≡ before a) ⊎ IsSparedAt spared a
  pub taken : (k i : ℕ) → i < spared k → content_in after k i ≡ first k i
