-- Slots by number, as the code tells them.
-- Our choice: a restatement for proofs.
use Rattle.std.specs.Prelude.{◌≡◌, ℕ, ◌<◌, Bool, true, false, List, Option, Some, None, Result, Ok, Err}
use Rattle.std.specs.Str.{bytes_eq}
use Rattle.file_model.specs.declared.FileError.{FileError}
use Rattle.file_model.specs.Sizes.{slot_count}
use Rattle.file_model.specs.File.{File}
use Rattle.file_model.specs.Slots.{file_at, slot_start, is_in_use}
use Rattle.file_model.specs.Operations.{Entry, with_content}

-- the file whose fields stand in slot k
abbrev pub file_in : (ℕ → ℕ) → ℕ → File
file_in bytes k = file_at bytes (slot_start k)

-- whether a slot's file has this name
abbrev pub holds : List ℕ → Option File → Bool
holds name None = false
holds name (Some f) = bytes_eq f.name name

abbrev pub entry_in : (ℕ → ℕ) → ℕ → Entry
entry_in bytes k = record { slot = k; file = file_in bytes k }

-- the entry of a slot that was found
abbrev pub optional_entry : (ℕ → ℕ) → Option ℕ → Option Entry
optional_entry bytes None = None
optional_entry bytes (Some k) = Some (entry_in bytes k)

abbrev pub entry_answer : (ℕ → ℕ) → Result ℕ FileError → Result Entry FileError
entry_answer bytes (Ok k) = Ok (entry_in bytes k)
entry_answer bytes (Err e) = Err e

-- what `put` makes of the file of a slot that was found
abbrev pub put_answer : (ℕ → ℕ) → List ℕ → Bool → Result ℕ FileError → Result Entry FileError
put_answer bytes part add (Ok k) = Ok (record { slot = k; file = with_content part add (file_in bytes k) })
put_answer bytes part add (Err e) = Err e

-- the slot that changes, or why none does
abbrev pub slot_answer : Result Entry FileError → Result ℕ FileError
slot_answer (Ok e) = Ok e.slot
slot_answer (Err e) = Err e

-- slot k is in use
pub record HasFile (bytes : ℕ → ℕ) (k : ℕ) : Type 0 where
  pub within : k < slot_count
  pub used : is_in_use bytes (slot_start k) ≡ true
