-- What a call that writes does to the bytes, and a header as the code keeps it.
-- Our choice: a restatement for proofs.
use Rattle.std.specs.Prelude.{◌≡◌, ℕ, ◌+◌, cond, List, ◌++◌, length, Option, Some, None, Result, Ok, Err, codes}
use Rattle.std.specs.Int.{w32, to_le_bytes}
use Rattle.file_model.specs.declared.FileError.{FileError}
use Rattle.file_model.specs.File.{File}
use Rattle.file_model.specs.Slots.{with_padding, with_slot}
use Rattle.file_model.specs.Operations.{Entry}
use Rattle.file_image.specs.declared.writing.Header.{Header}

-- the slot that changes has its new file, or the first error is answered and nothing changes
abbrev pub Applies : {A : Type 0} → Result Entry FileError → Result A FileError → (ℕ → ℕ) → (ℕ → ℕ) → Type 0
Applies (Ok e) (Ok x) old new = new ≡ with_slot old e.slot e.file
Applies (Ok e) (Err f) old new = ⊥
Applies (Err e) (Ok x) old new = ⊥
Applies (Err e) (Err f) old new = (f ≡ e) × (new ≡ old)

-- the header of a file
pub record Describes (h : Header) (f : File) : Type 0 where
  pub name : h.name ≡ with_padding f.name
  pub name_length : h.name_length ≡ length f.name
  pub version : h.version ≡ f.version
  pub base : h.base ≡ f.base
  pub length : h.length ≡ length f.content
  pub length_at_base : h.length_at_base ≡ f.length_at_base
  pub append : h.append ≡ f.append
  pub conflicted : h.conflicted ≡ f.conflicted
  pub deleted : h.deleted ≡ f.deleted

-- what the code tells of a slot: the header of its file, or that it is free
abbrev pub IsHeader : Option File → Option Header → Type 0
IsHeader None None = Unit {0}
IsHeader None (Some h) = ⊥
IsHeader (Some f) None = ⊥
IsHeader (Some f) (Some h) = Describes h f

-- the mark and the first three numbers of a header, and the other ones with the name
abbrev pub first_half : Header → List ℕ
first_half h = codes "DTF1" ++ to_le_bytes w32 h.version ++ to_le_bytes w32 h.base ++ to_le_bytes w32 h.length

abbrev pub flags_in : Header → ℕ
flags_in h = cond h.append 1 0 + cond h.conflicted 2 0 + cond h.deleted 4 0

abbrev pub second_half : Header → List ℕ
second_half h = to_le_bytes w32 h.length_at_base ++ to_le_bytes w32 (flags_in h) ++ to_le_bytes w32 h.name_length ++ h.name
