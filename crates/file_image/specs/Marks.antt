-- The parent's slots that reconciling writes, marked file by file without writing any.
-- Our choice: a restatement for proofs.
use Rattle.std.specs.Prelude.{◌≡◌, ℕ, ◌<◌, ◌||◌, ◌⊎◌, Bool, true, false, List, length, slice_index_or, slice_set, Option, Some, None}
use Rattle.std.specs.List.{AllZip}
use Rattle.file_model.specs.Sizes.{slot_count}
use Rattle.file_model.specs.File.{File}
use Rattle.file_model.specs.Slots.{slots_of, slot_start, is_in_use}
use Rattle.file_model.specs.Reconcile.{Outcome, stays, writes, leaves_out, is_used}
use Rattle.file_image.specs.Lookup.{holds}

-- the slot that is written
abbrev pub slot_of : Outcome → Option ℕ
slot_of stays = None
slot_of (writes e) = Some e.slot
slot_of leaves_out = None

-- marks with one more, or none
abbrev pub with_mark : List Bool → Option ℕ → List Bool
with_mark marks None = marks
with_mark marks (Some k) = slice_set marks k true

-- slots that are in use where those of the bytes are, and where one is marked
pub record AreInUse (slots : List (Option File)) (bytes : ℕ → ℕ) (marks : List Bool) : Type 0 where
  pub long : length slots ≡ slot_count
  pub used : (k : ℕ) → k < slot_count → is_used (slice_index_or slots k None) ≡ (is_in_use bytes (slot_start k) || slice_index_or marks k false)

-- a slot is as it was, or neither it nor what it was has the name
abbrev pub IsSameFor : List ℕ → Option File → Option File → Type 0
IsSameFor name s t = (s ≡ t) ⊎ ((holds name s ≡ false) × (holds name t ≡ false))

-- the parent's slots by now, where marks tell which were written, and none of them for this name
pub record Follows (bytes : ℕ → ℕ) (marks : List Bool) (name : List ℕ) (slots : List (Option File)) : Type 0 where
  pub in_use : AreInUse slots bytes marks
  pub same : AllZip (IsSameFor name) slots (slots_of bytes)
